pub mod JsonLemmas
pub mod lemmas
mod NumeralLemmas
mod DeterminingLemmas
mod PieceLemmas
mod KindLemmas
