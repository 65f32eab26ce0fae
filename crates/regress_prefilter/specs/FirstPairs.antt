-- The first two bytes of the matches of a part of a tree.
use Rattle.std.specs.Prelude.{◌≡◌, ◌≤◌, ◌<◌, ◌+◌, ◌||◌, ℕ, Bool, true, List, [], Option, MatchOption, All, nat_le}
use Rattle.regress_base.specs.ByteBitmap.{contains}
use Rattle.regress_base.specs.Positions.{IsMemberAt}
use Rattle.regress_tree.specs.Matching.{steps, matches}
use Rattle.regress_tree.specs.Reading.{forwards}
use Rattle.regress_tree.specs.Steps.{MatchState, Matcher, Setting}
use Rattle.regress_tree.specs.Tree.{Tree}
use Rattle.regress_prefilter.specs.declared.first_pairs.FirstPair.{FirstPair}
use Rattle.regress_prefilter.specs.declared.first_pairs.Pair.{Pair}

-- a byte of the set, or no ASCII character
abbrev pub is_second : (set : ℕ → Bool) → ℕ → Bool
is_second set b = set b || nat_le 128 b

-- The range from `from` to `to` is empty, or it is one byte of the set `first`, or a byte of `first` and then one of `second`
-- are at `from`.
pub data BeginsWithTwo (first second : ℕ → Bool) (empty single : Bool) (bytes : List ℕ) (from to : ℕ) : Type 0 where
  none : empty ≡ true → to ≡ from → BeginsWithTwo first second empty single bytes from to
  one : IsMemberAt first bytes from → single ≡ true → to ≡ from + 1 → BeginsWithTwo first second empty single bytes from to
  more : IsMemberAt first bytes from → IsMemberAt second bytes (from + 1) → BeginsWithTwo first second empty single bytes from to

-- this holds from every state to every outcome
abbrev pub AllBegin : (first second : ℕ → Bool) → (empty single : Bool) → (bytes : List ℕ) → Matcher → Type 0
AllBegin first second empty single bytes f = (s : MatchState) → All (λ t. BeginsWithTwo first second empty single bytes s.position t.position) (f s)

-- the same for the fields of what is known of a part
abbrev pub IsFirstPairOf : FirstPair → (bytes : List ℕ) → Matcher → Type 0
IsFirstPairOf front bytes f = AllBegin (contains front.first) (is_second (contains front.second)) front.empty front.single bytes f

-- this holds for every setting and every text
abbrev pub IsFirstPair : FirstPair → Tree → Type 0
IsFirstPair front t = (setting : Setting) (bytes : List ℕ) → IsFirstPairOf front bytes (steps setting bytes forwards t)

-- the byte at the offset is in the first set, and the one after it is in the second or no ASCII character
pub record IsPairAt (pair : Pair) (bytes : List ℕ) (at : ℕ) : Type 0 where
  pub first : IsMemberAt (contains pair.first) bytes at
  pub second : IsMemberAt (is_second (contains pair.second)) bytes (at + 1)

-- In the forward direction the tree has no match at any other offset.
abbrev pub BeginsWithPair : Pair → Tree → Type 0
BeginsWithPair pair t = (setting : Setting) (bytes : List ℕ) (s : MatchState) → (IsPairAt pair bytes s.position → ⊥) →
    matches setting bytes forwards t s ≡ []

-- the least such offset, `from` or later, or None if there is none
abbrev pub IsNextPair : Pair → (bytes : List ℕ) → (from : ℕ) → Option ℕ → Type 0
IsNextPair pair bytes from r =
    MatchOption r ((k : ℕ) → from ≤ k → IsPairAt pair bytes k → ⊥)
    (λ i. (from ≤ i) × IsPairAt pair bytes i × ((k : ℕ) → from ≤ k → k < i → IsPairAt pair bytes k → ⊥))
