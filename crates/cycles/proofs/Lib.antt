pub mod Rounds
pub mod Sums
pub mod Tables
