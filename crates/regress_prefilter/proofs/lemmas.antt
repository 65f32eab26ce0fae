-- Lemmas on the definitions of this crate that the crates above may cite.
pub mod OneCharacter
pub mod Required
pub mod Distinct
