pub mod lemmas
mod ModifierLemmas
