pub mod Breaking
pub mod Classes
pub mod Cutting
pub mod Lines
pub mod Numbering
