pub mod lemmas
pub mod DataLemmas
pub mod ConstantsLemmas
pub mod WholeLemmas
