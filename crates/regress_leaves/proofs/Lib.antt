pub mod lemmas
pub mod ReadingLemmas
pub mod WordLemmas
pub mod ReferenceLemmas
pub mod StringLemmas
pub mod AsciiSetLemmas
