pub mod Ending
pub mod Written
