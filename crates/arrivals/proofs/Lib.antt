pub mod Explaining
pub mod Playing
pub mod Following
