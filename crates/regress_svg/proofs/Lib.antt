pub mod EscapeLemmas
pub mod LinkLemmas
pub mod MarkupLemmas
