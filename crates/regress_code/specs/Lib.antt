pub mod Candidates
pub mod Choices
pub mod Code
pub mod NextBytes
pub mod Possessive
pub mod Rows
pub mod Skips
