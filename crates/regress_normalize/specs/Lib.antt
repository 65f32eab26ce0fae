pub mod PartFacts
pub mod Normalized
pub mod Packed
pub mod Wrapped
pub mod Steps
