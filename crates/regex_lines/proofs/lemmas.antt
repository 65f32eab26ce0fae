-- Lemmas about this crate's definitions, for use in the crates above.
pub mod Failures
