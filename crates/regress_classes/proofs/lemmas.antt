-- Lemmas on this crate's definitions, for the crates above.
pub mod ClassSets
pub mod ClassStrings
pub mod Pieces
pub mod Values
