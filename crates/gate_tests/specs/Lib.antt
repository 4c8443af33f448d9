pub mod Stores
pub mod Storing
