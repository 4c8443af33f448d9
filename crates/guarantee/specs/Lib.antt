pub mod Views
pub mod Playing
pub mod Promise
pub mod Example
