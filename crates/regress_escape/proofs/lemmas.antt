-- Lemmas about this crate's definitions, for use in the crates above.
pub mod Numeric
pub mod Heads
pub mod Derived
pub mod Matched
