-- A text has a match exactly if the list of all matches in it is not empty.
use Rattle.std.proofs.Common.{◌≡◌, ℕ, List, [], ◌∷◌, refl, arith}
use Rattle.std.specs.Str.{IsCharBoundary}
use Rattle.regress_tree.specs.Steps.{MatchState}
use Rattle.regress_found.specs.Found.{start_of}
use Rattle.regress.specs.Searched.{MatchesSomewhere}
use Rattle.regress_found.specs.Repeated.{AreAllMatches}
use Rattle.regress_found.specs.declared.found.Match.{Match}

module _ (text : List ℕ) (at : ℕ → List MatchState) where
  pub some_somewhere : (m : Match) (ms : List Match) → AreAllMatches text at (m ∷ ms) → MatchesSomewhere text at
  some_somewhere m ms all = (start_of m, all.found.0.boundary, λ none. let bad : ⊥ = cc (all.found.0.first.1, none) in bad)

  pub none_nowhere : AreAllMatches text at [] → MatchesSomewhere text at → ⊥
  none_nowhere all some = some.2 (all.none some.0 (omega (arith, all.found)) some.1)

  pub nowhere_none : (MatchesSomewhere text at → ⊥) → AreAllMatches text at []
  nowhere_none none = record { to = 0; found = refl; none = λ p from boundary. by p boundary (at p) refl }
    where
      by : (p : ℕ) → IsCharBoundary text p → (states : List MatchState) → at p ≡ states → at p ≡ []
      by p boundary [] is = is
      by p boundary (state ∷ states) is = absurd (none (p, boundary, λ other. let bad : ⊥ = cc (is, other) in bad))
