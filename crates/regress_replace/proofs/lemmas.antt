-- Lemmas about this crate's definitions, for the crates that use it.
pub mod Order
pub mod Found
