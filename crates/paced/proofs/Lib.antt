pub mod Breaking
pub mod Makings
pub mod Runs
pub mod Ticks
