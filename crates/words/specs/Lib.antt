pub mod Bytes
pub mod Numbers
pub mod Split
pub mod Tokens
