-- The capture groups of a pattern.
use Rattle.std.specs.Prelude.{ℕ, ◌+◌, List, [], ◌∷◌, Option, option_map, encode_utf8_all}
use Rattle.regress_tree.specs.WellFormed.{Capture}
use Rattle.regress_syntax.specs.Syntax.{Name, Pattern, names}

-- the groups of these names, with ids from n on
abbrev pub numbered : ℕ → List (Option Name) → List Capture
numbered n [] = []
numbered n (name ∷ rest) = record { id = n; name = option_map encode_utf8_all name } ∷ numbered (n + 1) rest

-- the groups of a pattern, in the order of their opening parentheses
abbrev pub pattern_groups : Pattern → List Capture
pattern_groups p = numbered 0 (names p)
