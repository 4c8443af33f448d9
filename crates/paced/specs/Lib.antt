pub mod Loads
pub mod Makes
pub mod Pace
pub mod Runs
pub mod Tables
pub mod Rows
