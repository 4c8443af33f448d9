pub mod Gates
pub mod Offering
pub mod Parts
