-- Characters as they are shown.
use Rattle.std.specs.Prelude.{◌≡◌, ◌⊎◌, ℕ, Bool, false, List, [], ◌∷◌, ◌++◌, encode_utf8, nat_le, ◌&&◌}
use Rattle.regress_tree.specs.Display.{code_point}

-- printable ASCII
abbrev pub is_printable : ℕ → Bool
is_printable c = nat_le 32 c && nat_le c 126

-- A character is shown as itself or, unless it is printable ASCII, by its number.
abbrev pub IsShown : ℕ → List ℕ → Type 0
IsShown c bytes = (bytes ≡ encode_utf8 c) ⊎ ((is_printable c ≡ false) × (bytes ≡ code_point c))

-- A character is shown after a text.
abbrev pub ShowsAfter : ℕ → (before after : List ℕ) → Type 0
ShowsAfter c before after = (shown : List ℕ) × IsShown c shown × (after ≡ before ++ shown)

-- Each character is shown, in order.
abbrev pub IsShownText : List ℕ → List ℕ → Type 0
IsShownText [] bytes = bytes ≡ []
IsShownText (c ∷ cs) bytes = (first rest : List ℕ) × IsShown c first × IsShownText cs rest × (bytes ≡ first ++ rest)
