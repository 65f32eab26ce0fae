-- The first bytes of the matches of a part of a tree.
use Rattle.std.specs.Prelude.{◌≡◌, ◌⊎◌, ◌≤◌, ◌<◌, ℕ, Bool, true, List, [], Some, IsTrue, MatchOption, slice_get, encode_utf8, All}
use Rattle.std.specs.Char.{IsScalar}
use Rattle.std.specs.Prelude.{Option}
use Rattle.regress_base.specs.ByteBitmap.{contains}
use Rattle.regress_base.specs.Positions.{IsMemberAt}
use Rattle.regress_base.specs.declared.bytesearch.bitmap.ByteBitmap.{ByteBitmap}
use Rattle.regress_tree.specs.Matching.{steps, matches}
use Rattle.regress_tree.specs.Reading.{forwards}
use Rattle.regress_tree.specs.Steps.{MatchState, Matcher, Setting}
use Rattle.regress_tree.specs.Tree.{Tree}
use Rattle.regress_prefilter.specs.declared.first_sets.FirstSet.{FirstSet}

-- the set contains the first byte of the UTF-8 encoding of the character
abbrev pub IsCovered : (set : ℕ → Bool) → (c : ℕ) → Type 0
IsCovered set c = IsScalar c → (b : ℕ) → slice_get (encode_utf8 c) 0 ≡ Some b → IsTrue (set b)

-- A byte of the set is at offset `from`, or `through` holds and the range from `from` to `to` is empty.
abbrev pub BeginsWith : (set : ℕ → Bool) → (through : Bool) → (bytes : List ℕ) → (from to : ℕ) → Type 0
BeginsWith set through bytes from to = IsMemberAt set bytes from ⊎ ((through ≡ true) × (to ≡ from))

-- this holds from every state to every outcome
abbrev pub Begins : (set : ℕ → Bool) → (through : Bool) → (bytes : List ℕ) → Matcher → Type 0
Begins set through bytes f = (s : MatchState) → All (λ t. BeginsWith set through bytes s.position t.position) (f s)

-- the same for the fields of a first set
abbrev pub IsFirstSetOf : FirstSet → (bytes : List ℕ) → Matcher → Type 0
IsFirstSetOf front bytes f = Begins (contains front.bytes) front.through bytes f

-- this holds for every setting and every text
abbrev pub IsFirstSet : FirstSet → Tree → Type 0
IsFirstSet front t = (setting : Setting) (bytes : List ℕ) → IsFirstSetOf front bytes (steps setting bytes forwards t)

-- In the forward direction the tree has no match at an offset without a byte of the set.
abbrev pub BeginsWithByteOf : ByteBitmap → Tree → Type 0
BeginsWithByteOf set t = (setting : Setting) (bytes : List ℕ) (s : MatchState) → (IsMemberAt (contains set) bytes s.position → ⊥) →
    matches setting bytes forwards t s ≡ []

-- the least offset, `from` or later, with a byte of the set, or None if there is none
abbrev pub IsNextMember : ByteBitmap → (bytes : List ℕ) → (from : ℕ) → Option ℕ → Type 0
IsNextMember set bytes from r =
    MatchOption r ((k : ℕ) → from ≤ k → IsMemberAt (contains set) bytes k → ⊥)
    (λ i. (from ≤ i) × IsMemberAt (contains set) bytes i × ((k : ℕ) → from ≤ k → k < i → IsMemberAt (contains set) bytes k → ⊥))
