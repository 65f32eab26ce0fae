-- Names with values.
use Rattle.std.specs.Borrow.{Bor}
use Rattle.std.specs.Prelude.{ℕ, List, Option, Some, None, option_map, if◌then◌else◌, ◌==◌, length, nat_lt}
use Rattle.std.specs.List.{after_first, before_first, position_or_len}

-- the name in front of the first `=`, and the text after it
abbrev pub name_and_value : (text : List ℕ) → List ℕ × Option (List ℕ)
name_and_value text =
    if nat_lt (position_or_len (λ b. b == 61) text) (length text) then (before_first (λ b. b == 61) text, Some (after_first (λ b. b == 61) text))
    else (text, None)

abbrev pub parts_of : Bor (List ℕ) × Option (Bor (List ℕ)) → List ℕ × Option (List ℕ)
parts_of parts = (parts.0.now, option_map (λ text. text.now) parts.1)
