pub mod Breaking
mod Placing
pub mod Sizes
