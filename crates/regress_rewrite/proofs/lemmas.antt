-- Lemmas about this crate's definitions, for the crates that use it.
pub mod Checked
pub mod Keeps
pub mod Lawful
pub mod Spine
pub mod Parts
pub mod Splicing
pub mod Flattening
pub mod Segments
pub mod Joining
pub mod Failing
pub mod Promotion
pub mod Unrolling
pub mod Emptying
pub mod Alternatives
