-- Outcomes of matchers in sequence.
use Rattle.std.proofs.Common.{◌≡◌, List, [], ◌∷◌, ◌++◌, flat_map, refl, sym, ap, ◌∙◌}
use Rattle.std.proofs.lemmas.List.Concat.{flat_map-append}
use Rattle.regress_tree.specs.Steps.{MatchState, Matcher, stay, ◌then_◌}

pub flat_map-stay : (states : List MatchState) → flat_map stay states ≡ states
flat_map-stay [] = refl
flat_map-stay (s ∷ states) = ap (λ rest. s ∷ rest) (flat_map-stay states)

pub flat_map-then : (f g : Matcher) (states : List MatchState) → flat_map (f then_ g) states ≡ flat_map g (flat_map f states)
flat_map-then f g [] = refl
flat_map-then f g (s ∷ states) =
    ap (λ rest. flat_map g (f s) ++ rest) (flat_map-then f g states) ∙ sym (flat_map-append g (f s) (flat_map f states))
