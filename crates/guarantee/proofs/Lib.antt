pub mod Steady
pub mod Steps
pub mod Ticking
pub mod Linking
pub mod Promising
pub mod Played
pub mod Exampled
