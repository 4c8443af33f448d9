pub mod Worked
pub mod Plans
pub mod Figures
pub mod Premises
