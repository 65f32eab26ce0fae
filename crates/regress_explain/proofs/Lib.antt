pub mod MarkedLemmas
pub mod PageLemmas
pub mod SourceLemmas
