pub mod lemmas
mod CompiledLemmas
mod EcmaLemmas
mod FaultLemmas
mod FoundLemmas
mod LettersLemmas
mod OutsidePairsLemmas
mod ReplacedLemmas
mod RequiredLemmas
mod SourceLemmas
mod ValidLemmas
