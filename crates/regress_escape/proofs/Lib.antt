pub mod lemmas
mod SpaceLemmas
mod EncodingLemmas
