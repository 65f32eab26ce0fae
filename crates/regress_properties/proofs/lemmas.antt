-- Lemmas on the definitions of this crate that the crates above may cite.
pub mod Named
pub mod Identifiers
pub mod Properties
