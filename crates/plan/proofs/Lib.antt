pub mod Adding
pub mod Bounds
pub mod Breaking
pub mod Climbing
pub mod Once
pub mod Sides
pub mod Totals
