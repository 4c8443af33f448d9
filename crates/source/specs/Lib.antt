pub mod Facts
pub mod Sides
pub mod Rows
pub mod Besides
