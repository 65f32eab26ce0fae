pub mod lemmas
mod FirstSetLemmas
mod FirstPairLemmas
mod AnchorLemmas
mod RequiredLemmas
mod LiteralLemmas
mod NearLemmas
mod CandidateLemmas
