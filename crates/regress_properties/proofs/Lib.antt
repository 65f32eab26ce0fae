pub mod lemmas
pub mod ListedLemmas
pub mod RangeLemmas
pub mod ConstantsLemmas
pub mod FoundLemmas
pub mod StringsLemmas
