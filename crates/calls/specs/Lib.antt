pub mod Told
pub mod Events
pub mod Jobs
pub mod Rules
pub mod States
pub mod Steps
pub mod Guarantee
