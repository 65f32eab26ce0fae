-- Finding one more match extends a list of matches.
use Rattle.std.proofs.Common.{ℕ, List, [], ◌∷◌, ◌++◌, refl, subst}
use Rattle.regress_tree.specs.Steps.{MatchState}
use Rattle.regress_found.specs.Found.{IsLeftmost}
use Rattle.regress_found.specs.declared.found.Match.{Match}
use Rattle.regress_found.specs.Repeated.{AreMatches, next_offset}

pub AreMatches-more : (text : List ℕ) (at : ℕ → List MatchState) (from to : ℕ) (ms : List Match) (m : Match) →
    AreMatches text at from to ms → IsLeftmost text at to m → AreMatches text at from (next_offset m) (ms ++ m ∷ [])
AreMatches-more text at from to [] m found next = (subst (λ k. IsLeftmost text at k m) found next, refl)
AreMatches-more text at from to (first ∷ ms) m found next =
    (found.0, AreMatches-more text at (next_offset first) to ms m found.1 next)
