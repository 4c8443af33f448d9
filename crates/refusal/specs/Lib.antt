pub mod Laws
pub mod Table
pub mod Refusals
