pub mod Numbers
pub mod Rows
