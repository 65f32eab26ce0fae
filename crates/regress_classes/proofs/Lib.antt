pub mod lemmas
mod ChainLemmas
mod ClassContentsLemmas
mod ClassLemmas
mod ClassOperandLemmas
mod ClassPlainLemmas
mod ClassSetLemmas
mod ClassStringLemmas
mod ClosingLemmas
mod CodeUnitLemmas
mod EscapeProductions
mod IntervalCollectorLemmas
mod PropertyLemmas
