-- Lemmas about this crate's definitions, for the crates that depend on it.
pub mod Paired
pub mod Each
pub mod Nesting
pub mod Neighbours
pub mod Postorder
pub mod Zipped
