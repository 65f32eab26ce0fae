-- Lemmas about this crate's definitions, for the crates that use it.
pub mod Choices
pub mod Counts
