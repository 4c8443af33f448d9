pub mod Drafts
pub mod Faulty
pub mod Marking
pub mod Reading
pub mod Rowing
