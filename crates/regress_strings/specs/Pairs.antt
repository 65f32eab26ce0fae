-- Strings with their indices.
use Rattle.std.specs.Prelude.{◌≡◌, ℕ, ◌<◌, List, [], length, slice_index_or}
use Rattle.std.specs.Borrow.{Bor}

-- The pairs are those of all the strings, in the order of the indices.
pub record ArePairs (strings : List (List ℕ)) (pairs : List (Bor (List ℕ) × ℕ)) : Type 0 where
  pub count : length pairs ≡ length strings
  pub index : (k : ℕ) (pair : Bor (List ℕ) × ℕ) → k < length pairs → (slice_index_or pairs k pair).1 ≡ k
  pub string : (k : ℕ) (pair : Bor (List ℕ) × ℕ) → k < length pairs → (slice_index_or pairs k pair).0.now ≡ slice_index_or strings k []
