-- Strings, and which of them occur at a position of a text.
use Rattle.std.specs.Prelude.{◌≡◌, ℕ, Bool, true, false, nat_eq, ◌+◌, ◌<◌, ◌≤◌, List, length, drop, slice_get, Option, Some, MatchOption}
use Rattle.std.specs.List.{starts_with}
use Rattle.regress_strings.specs.declared.strings.Strings.{Strings}
use Rattle.regress_strings.specs.Contents.{contents}

-- the strings, by their indices
abbrev pub strings_of : Strings → List (List ℕ)
strings_of s = contents s.order.strings.items

-- whether the string occurs in the text at the position
abbrev pub occurs_at : (text : List ℕ) (position : ℕ) (string : List ℕ) → Bool
occurs_at text position string = starts_with nat_eq (drop position text) string

-- None of the strings with an index from `low` on and below `high` occurs in the text at the position.
abbrev pub NoneOccurs : (strings : List (List ℕ)) (text : List ℕ) (position low high : ℕ) → Type 0
NoneOccurs strings text position low high =
    (k : ℕ) (string : List ℕ) → low ≤ k → k < high → slice_get strings k ≡ Some string → occurs_at text position string ≡ false

-- k is the greatest index below `before` of a string that occurs in the text at the position.
pub record IsLast (strings : List (List ℕ)) (text : List ℕ) (position before k : ℕ) : Type 0 where
  pub below : k < before
  pub within : k < length strings
  pub occurs : (string : List ℕ) → slice_get strings k ≡ Some string → occurs_at text position string ≡ true
  pub last : NoneOccurs strings text position (k + 1) before

-- The result is this index, or `None` if no string with an index below `before` occurs there.
abbrev pub IsLastAt : (strings : List (List ℕ)) (text : List ℕ) (position before : ℕ) (result : Option ℕ) → Type 0
IsLastAt strings text position before result =
    MatchOption result (NoneOccurs strings text position 0 before) (IsLast strings text position before)
