pub mod lemmas
mod CandidateLemmas
mod LeadingLemmas
mod NextBytesLemmas
mod ListLemmas
mod RowLemmas
mod SkipLemmas
