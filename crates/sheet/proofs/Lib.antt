pub mod Breaking
pub mod Keeping
pub mod Lining
pub mod Telling
