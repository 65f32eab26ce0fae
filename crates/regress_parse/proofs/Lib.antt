pub mod lemmas
pub mod AtomLemmas
pub mod EscapeProductions
pub mod ReaderLemmas
pub mod GrammarLemmas
pub mod CountLemmas
mod FaultLemmas
mod SettledLemmas
mod DuplicateLemmas
pub mod StringLemmas
pub mod ClassTreeLemmas
pub mod BuildLemmas
pub mod TermLoopInvariant
pub mod AlternativesLemmas
pub mod TermLemmas
mod LengthLemmas
pub mod ParserLemmas
pub mod AcceptedLemmas
pub mod NumbersOnlyRule
pub mod PartLemmas
pub mod MeaningLemmas
pub mod GroupLemmas
pub mod CodePointLemmas
pub mod WellFormedLemmas
pub mod ReachLemmas
pub mod FlatLemmas
pub mod SpanLists
pub mod SpansOfItem
pub mod SpansOfTerms
pub mod SpansOfPattern
pub mod SpansOfWhole
mod NodesOfLists
mod BoundOfSource
mod BoundOfNames
mod BoundOfHead
mod BoundOfNodes
mod BoundLemmas
