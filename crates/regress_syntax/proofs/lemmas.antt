-- Lemmas about this crate's definitions, for the crates that depend on it.
pub mod NameEnds
pub mod Plain
pub mod References
pub mod Productions
pub mod Paths
pub mod SameNames
pub mod Scan
pub mod Lengths
pub mod FirstErrors
