pub mod LengthLemmas
pub mod ListedLemmas
pub mod NestedLemmas
mod RemarksLemmas
