-- The code points that a case mapping table maps to others, one by one.
use Rattle.std.specs.Prelude.{◌≢◌, ℕ, ◌+◌, ◌<◌, Bool, not, ◌==◌, slice_index, List, map, filter, length}
use Rattle.std.specs.List.{range_with_len, flat_map}
use Rattle.regress_unicode.specs.FoldEntries.{FoldEntry, mapped}

-- the code points in the range of an entry
abbrev pub run : FoldEntry → List ℕ
run mapping = range_with_len mapping.start mapping.length

-- the code points in the ranges of all entries
abbrev pub codes : List FoldEntry → List ℕ
codes mappings = flat_map run mappings

-- whether a number is mapped to another one
abbrev pub moves : (ℕ → ℕ) → ℕ → Bool
moves f c = not (f c == c)

-- the code points that are mapped to another one
abbrev pub mapped_code_points : (ℕ → ℕ) → List FoldEntry → List ℕ
mapped_code_points f mappings = filter (moves f) (codes mappings)

-- what they are mapped to
abbrev pub targets : List FoldEntry → List ℕ
targets mappings = map (mapped mappings) (mapped_code_points (mapped mappings) mappings)

-- the number of occurrences of d in the list
abbrev pub count_of : ℕ → List ℕ → ℕ
count_of d xs = length (filter (λ x. x == d) xs)

-- no number is equal to the number three indices after it
abbrev pub HasNoFour : List ℕ → Type 0
HasNoFour xs = (i : ℕ) → i + 3 < length xs → slice_index xs i ≢ slice_index xs (i + 3)
