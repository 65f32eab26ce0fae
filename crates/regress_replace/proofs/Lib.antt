mod ReferenceLemmas
mod NameLemmas
mod TemplateLemmas
mod OrderLemmas
mod SplitLemmas
pub mod lemmas
