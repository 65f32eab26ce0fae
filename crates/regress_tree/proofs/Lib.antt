pub mod lemmas
mod BracketLemmas
mod DisplayLemmas
mod DuplicateLemmas
mod GroupIdLemmas
mod IdLemmas
mod LoopLemmas
mod PassLemmas
mod RootLemmas
mod OccurringLemmas
mod SurveyLemmas
mod TextLemmas
