-- Occurrences in a text, and the first of them. A text is a list of bytes; its byte offsets are from 0 to its length.
use Rattle.std.specs.Prelude.{◌≡◌, ℕ, ◌<◌, ◌≤◌, Bool, IsTrue, List, Option, MatchOption, length, take, drop, slice_index}

-- i is the least number that satisfies P, and is at most n
pub record IsLeastAt (P : ℕ → Type 0) (n i : ℕ) : Type 0 where
  pub within : i ≤ n
  pub occurs : P i
  pub before : (k : ℕ) → k < i → ¬ P k

-- r is the least number from 0 to n that satisfies P, or None if there is none
abbrev pub IsLeast : (ℕ → Type 0) → ℕ → Option ℕ → Type 0
IsLeast P n r = MatchOption r ((k : ℕ) → k ≤ n → ¬ P k) (IsLeastAt P n)

-- the byte at offset i of the text is in the set
pub record IsMemberAt (set : ℕ → Bool) (text : List ℕ) (i : ℕ) : Type 0 where
  pub inside : i < length text
  pub member : IsTrue (set (slice_index text i))

-- every result that `says` allows for a byte states whether the byte is in the set
abbrev pub DecidesMembership : (ℕ → Bool → Type 0) → (ℕ → Bool) → Type 0
DecidesMembership says set = (b : ℕ) (r : Bool) → b < 256 → says b r → r ≡ set b

-- the needle occurs in the text at offset i
abbrev pub OccursAt : List ℕ → List ℕ → ℕ → Type 0
OccursAt needle text i = take (length needle) (drop i text) ≡ needle
