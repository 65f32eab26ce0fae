-- Lemmas on the definitions of this crate that the crates above may cite.
pub mod Searches
pub mod ClassCharacters
