pub mod Makes
pub mod Phases
pub mod Timetables
pub mod Twice
pub mod Windows
