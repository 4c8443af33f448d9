pub mod Listings
pub mod Put
pub mod Texts
