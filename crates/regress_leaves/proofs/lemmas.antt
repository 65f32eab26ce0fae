-- Lemmas about this crate's definitions, for the crates that use it.
pub mod Leaves
pub mod Starts
pub mod Caseless
