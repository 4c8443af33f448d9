pub mod Steps
pub mod Times
