-- Outcomes without duplicates.
use Rattle.std.proofs.Common.{◌≡◌, List, [], ◌∷◌, refl}
use Rattle.regress_tree.specs.Steps.{MatchState, dedup}

-- There are none only where there are none with duplicates.
pub none_distinct : (states : List MatchState) → dedup states ≡ [] → states ≡ []
none_distinct [] is = refl
none_distinct (s ∷ states) is = let bad : ⊥ = cc in absurd bad
