-- A text with one more character.
use Rattle.std.proofs.Common.{◌≡◌, ◌∙◌, ℕ, List, [], ◌∷◌, ◌++◌, ap, refl, append-nil, append_assoc, sym}
use Rattle.regress_labels.specs.Symbols.{IsShown, IsShownText, ShowsAfter}

pub shown_more : (cs : List ℕ) (c : ℕ) (before after : List ℕ) → IsShownText cs before → ShowsAfter c before after → IsShownText (cs ++ c ∷ []) after
shown_more [] c before after none (shown, is, added) =
    (shown, [], is, refl, added ∙ ap (λ t. t ++ shown) none ∙ sym (append-nil shown))
shown_more (d ∷ cs) c before after (first, rest, is_first, are, joined) (shown, is, added) = (
  first,
  rest ++ shown,
  is_first,
  shown_more cs c rest (rest ++ shown) are (shown, is, refl),
  added ∙ ap (λ t. t ++ shown) joined ∙ append_assoc first rest shown,
)
