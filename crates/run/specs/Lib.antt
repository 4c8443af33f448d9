pub mod Faults
pub mod Rules
pub mod Runs
pub mod States
pub mod Steps
pub mod Told
