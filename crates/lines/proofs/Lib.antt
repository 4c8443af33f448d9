pub mod Begun
pub mod Breaking
pub mod Ruling
pub mod Values
pub mod Wording
pub mod Written
