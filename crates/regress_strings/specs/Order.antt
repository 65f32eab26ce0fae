-- Strings in lexicographic order.
use Rattle.std.specs.Prelude.{◌≡◌, ◌≢◌, ℕ, Bool, false, ◌<◌, ◌≤◌, List, [], length, slice_index, slice_index_or}
use Rattle.std.specs.Cmp.Lexicographic.{slice_cmp}
use Rattle.std.specs.Ordering.{nat_cmp, is_gt}
use Rattle.std.proofs.Props.{props}

-- whether the first string comes after the second in lexicographic order
abbrev pub is_after : (string other : List ℕ) → Bool
is_after string other = is_gt (slice_cmp nat_cmp string other)

-- the string whose index is at this place
abbrev pub string_at : (strings : List (List ℕ)) (indices : List ℕ) (place : ℕ) → List ℕ
string_at strings indices place = slice_index_or strings (slice_index indices place) []

-- The indices are those of all the strings, in ascending order of the strings. Those of equal strings ascend.
pub record IsOrder (strings : List (List ℕ)) (indices : List ℕ) : Type 0 where
  pub within : (i : ℕ) → i < length indices → slice_index indices i < length strings
  pub every : (k : ℕ) → k < length strings → ((i : ℕ) → i < length indices → slice_index indices i ≢ k) → ⊥
  pub ascend : (i j : ℕ) → i ≤ j → j < length indices → is_after (string_at strings indices i) (string_at strings indices j) ≡ false
  pub stable : (i j : ℕ) → i ≤ j → j < length indices → string_at strings indices i ≡ string_at strings indices j → slice_index indices i ≤ slice_index indices j

-- The property has at most one proof.
pub IsOrder-prop : (strings : List (List ℕ)) (indices : List ℕ) → IsProp (IsOrder strings indices)
IsOrder-prop strings indices = hlevel props
