pub mod Rows
pub mod Steps
pub mod Pictures
pub mod Tracks
