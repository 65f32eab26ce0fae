-- Lemmas about this crate's definitions, for the crates that depend on it.
pub mod Sources
pub mod Digits
pub mod After
pub mod InRange
pub mod Quantifiers
pub mod Faults
