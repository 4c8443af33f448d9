pub mod Breaking
pub mod Slots
