-- The positions that a search skips.
use Rattle.std.proofs.Common.{◌≡◌, ℕ, ◌≤◌, ◌<◌, List, [], length, None, inl, inr}
use Rattle.std.proofs.lemmas.Bool.{cases_lt}
use Rattle.regress_tree.specs.Steps.{MatchState}
use Rattle.regress_found.specs.Found as found
use Rattle.regress_found.specs.Found.{NoneBefore}

module _ (text : List ℕ) (at : ℕ → List MatchState) (origin from : ℕ) (none : NoneBefore text at origin from) where
  -- no position before the next start has an outcome
  pub none_before : (to : ℕ) → ((k : ℕ) → from ≤ k → k ≤ length text → k < to → at k ≡ []) → NoneBefore text at origin to
  none_before to skipped = λ k low high on. elim (cases_lt k from) [
    | inl before ↦ none k low before on
    | inr after ↦ skipped k after on.0 high
  ]

  pub none_after : ((k : ℕ) → from ≤ k → k ≤ length text → at k ≡ []) → found.Finds text at origin None
  none_after skipped = λ k low on. elim (cases_lt k from) [
    | inl before ↦ none k low before on
    | inr after ↦ skipped k after on.0
  ]

  -- nor one from there on, if none of these has one
  pub none_on : (to : ℕ) → NoneBefore text at from to → NoneBefore text at origin to
  none_on to more = λ k low high on. elim (cases_lt k from) [
    | inl before ↦ none k low before on
    | inr after ↦ more k after high on
  ]
