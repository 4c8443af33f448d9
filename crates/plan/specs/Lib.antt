pub mod Judged
pub mod Limits
pub mod Needs
pub mod Plans
pub mod Tasks
