pub mod lemmas
pub mod ListLemmas
pub mod SpliceLemmas
pub mod SimplifyLemmas
pub mod LeafLemmas
