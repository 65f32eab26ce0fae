-- Candidates, by the first bytes and a byte near the start.
use Rattle.std.proofs.Common.{◌≡◌, ◌≤◌, ◌<◌, ℕ, List, [], ◌∷◌, Option, Some, None, inl, inr, refl, subst, sym}
use Rattle.std.specs.Prelude.{IfSome}
use Rattle.std.proofs.lemmas.Bool.{cases_lt}
use Rattle.regress_tree.specs.Matching.{steps}
use Rattle.regress_tree.specs.Reading.{forwards}
use Rattle.regress_tree.specs.Steps.{MatchState, Setting}
use Rattle.regress_tree.specs.Tree.{Tree}
use Rattle.regress_prefilter.specs.Candidates.{AreCandidates, CanBegin, IsCandidate}
use Rattle.regress_prefilter.specs.Near.{BeginsNear, IsNearby}
use Rattle.regress_prefilter.specs.declared.candidates.Candidates.{Candidates}
use Rattle.regress_prefilter.specs.declared.near.Near.{Near}

-- a list is empty where it is without either of two facts
both_needed : (A B : Type 0) (states : List MatchState) → ((A → ⊥) → states ≡ []) → ((B → ⊥) → states ≡ []) → (A × B → ⊥) → states ≡ []
both_needed A B [] a b off = refl
both_needed A B (s ∷ states) a b off = absurd (no (a (λ x. no (b (λ y. off (x, y))))))
  where
    no : s ∷ states ≡ [] → ⊥
    no is = let bad : ⊥ = cc in bad

near_needed : (near : Option Near) (t : Tree) (setting : Setting) (bytes : List ℕ) (s : MatchState) → IfSome near (λ n. BeginsNear n t) →
    (IfSome near (λ n. IsNearby n bytes s.position) → ⊥) → steps setting bytes forwards t s ≡ []
near_needed None t setting bytes s begins off = absurd (off tt)
near_needed (Some n) t setting bytes s begins off = (begins setting bytes).none s off

pub are_candidates : (c : Candidates) (t : Tree) → ((setting : Setting) (bytes : List ℕ) (s : MatchState) → (CanBegin c.first bytes s.position → ⊥) →
    steps setting bytes forwards t s ≡ []) → IfSome c.near (λ n. BeginsNear n t) → AreCandidates c t
are_candidates c t first near = λ setting bytes s off.
    both_needed (CanBegin c.first bytes s.position) (IfSome c.near (λ n. IsNearby n bytes s.position)) (steps setting bytes forwards t s)
    (first setting bytes s) (near_needed c.near t setting bytes s near) (λ both. off (record { first = both.0; near = both.1 }))

module _ (c : Candidates) (near : Near) (same : c.near ≡ Some near) (text : List ℕ) where
  pub nearby_of : (k : ℕ) → IsCandidate c text k → IsNearby near text k
  nearby_of k is = subst (λ o. IfSome o (λ n. IsNearby n text k)) same is.near

  pub candidate_at : (k : ℕ) → CanBegin c.first text k → IsNearby near text k → IsCandidate c text k
  candidate_at k first here = record { first = first; near = subst (λ o. IfSome o (λ n. IsNearby n text k)) (sym same) here }

  -- no candidate up to a position, none near which the byte is up to another, and none by the first bytes from there on
  pub none_before : (from position nearby next : ℕ) → ((k : ℕ) → from ≤ k → k < position → IsCandidate c text k → ⊥) →
      ((k : ℕ) → position ≤ k → k < nearby → IsNearby near text k → ⊥) → ((k : ℕ) → nearby ≤ k → k < next → CanBegin c.first text k → ⊥) →
      (k : ℕ) → from ≤ k → k < next → IsCandidate c text k → ⊥
  none_before from position nearby next none far skipped k low high is = elim (cases_lt k position) [
    | inl before ↦ none k low before is
    | inr after ↦ (elim (cases_lt k nearby) [
      | inl off ↦ far k after off (nearby_of k is)
      | inr there ↦ skipped k there high is.first
    ])
  ]
