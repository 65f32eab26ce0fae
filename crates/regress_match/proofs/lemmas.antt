-- Lemmas about this crate's definitions, for the crates that use it.
pub mod Costs
pub mod Iterated
pub mod Searched
pub mod Inside
pub mod Matches
pub mod Memory
