-- Numbers whose elements at some indices are set.
use Rattle.std.specs.Prelude.{ℕ, ◌+◌, List, [], ◌∷◌, slice_set}

-- the numbers with consecutive ones at these indices
abbrev pub closed : (numbers indices : List ℕ) → (next : ℕ) → List ℕ
closed numbers [] next = numbers
closed numbers (i ∷ indices) next = closed (slice_set numbers i next) indices (next + 1)
