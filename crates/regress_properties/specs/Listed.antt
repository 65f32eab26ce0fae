-- The meaning of named sets and strings that are given as ranges in lists of numbers.
use Rattle.std.specs.Prelude.{ℕ, Bool, ◌&&◌, nat_le, IsTrue, List, [], ◌∷◌, map, All, length, slice_range, Vec}
use Rattle.std.specs.declared.alloc.Global.{Global}
use Rattle.regress_base.specs.Intervals.{Bounds, is_canonical_from}
use Rattle.regress_base.specs.Table.{Named}

-- the intervals whose first and last code points alternate in the list
abbrev pub paired : List ℕ → List Bounds
paired [] = []
paired (first ∷ []) = []
paired (first ∷ last ∷ ends) = record { first = first; last = last } ∷ paired ends

-- the set whose ends of intervals are in the half-open range of the list
abbrev pub set_at : List ℕ → ℕ → ℕ → List Bounds
set_at ends from to = paired (slice_range ends from to)

-- the strings whose ranges in `points` are in the half-open range of `positions`
abbrev pub strings_at : List (ℕ × ℕ) → List ℕ → ℕ → ℕ → List (List ℕ)
strings_at positions points from to = map (λ position. slice_range points position.0 position.1) (slice_range positions from to)

-- strings in memory, as lists of numbers
abbrev pub values_of : Vec (Vec ℕ Global) Global → List (List ℕ)
values_of strings = map (λ string. string.items) strings.items

-- the half-open range is within a list of that length
abbrev pub is_range_within : ℕ → ℕ → ℕ → Bool
is_range_within count from to = nat_le from to && nat_le to count

-- whether the range contains a canonical set
abbrev pub is_set_at : List ℕ → ℕ → ℕ → Bool
is_set_at ends from to = is_range_within (length ends) from to && is_canonical_from 0 (set_at ends from to)

-- a range with a name
abbrev pub range_of : List ℕ → ℕ → ℕ → Named (ℕ × ℕ)
range_of name from to = record { name = name; value = (from, to) }

-- a set with a name
abbrev pub named_set : List ℕ → List ℕ → ℕ → ℕ → Named (List Bounds)
named_set ends name from to = record { name = name; value = set_at ends from to }

-- a list of strings with a name
abbrev pub named_strings : List (ℕ × ℕ) → List ℕ → List ℕ → ℕ → ℕ → Named (List (List ℕ))
named_strings positions points name from to = record { name = name; value = strings_at positions points from to }

-- the range is within the list, and the range of every string in it is within the code points
pub record AreStringsAt (listed : List (ℕ × ℕ)) (code_points : List ℕ) (from to : ℕ) : Type 0 where
  pub positions : IsTrue (is_range_within (length listed) from to)
  pub points : All (λ position. IsTrue (is_range_within (length code_points) position.0 position.1)) (slice_range listed from to)

-- each of the ranges contains a canonical set
abbrev pub AreSets : List ℕ → List (ℕ × ℕ) → Type 0
AreSets ends positions = All (λ p. IsTrue (is_set_at ends p.0 p.1)) positions

-- each of the ranges contains strings
abbrev pub AreStrings : List (ℕ × ℕ) → List ℕ → List (ℕ × ℕ) → Type 0
AreStrings listed code_points positions = All (λ p. AreStringsAt listed code_points p.0 p.1) positions
