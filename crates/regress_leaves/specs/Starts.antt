-- What is known of how a match of a leaf begins.
use Rattle.std.specs.Prelude.{IsTrue, ◌≡◌, ℕ, ◌<◌, true, false, List, [], ◌∷◌, ◌+◌, length, get_or, slice_index}
use Rattle.std.specs.Coded.{Unit-prop}
use Rattle.std.proofs.Props.{props}
use Rattle.regress_base.specs.ByteBitmap.{contains}
use Rattle.regress_base.specs.declared.bytesearch.bitmap.ByteBitmap.{ByteBitmap}
use Rattle.regress_base.specs.Intervals.{Bounds, is_within}
use Rattle.regress_tree.specs.Matching.{steps}
use Rattle.regress_tree.specs.Reading.{forwards}
use Rattle.regress_tree.specs.Steps.{MatchState, Setting}
use Rattle.regress_tree.specs.Tree.{Tree, leaf, string_set}
use Rattle.regress_prefilter.specs.FirstSets.{BeginsWithByteOf}
use Rattle.regress_prefilter.specs.OneCharacter.{takes_one, test_of}
use Rattle.regress_unicode.specs.Caseless.{KeepsCaseless}
use Rattle.regress_leaves.specs.Known.{HasAsciiCase}
use Rattle.regress_leaves.specs.declared.start.Start.{Start}
use Rattle.regress_leaves.specs.declared.start.Start.TheVariants as starts

-- The `count` bytes from a position on are ASCII characters of the set.
abbrev pub AreIn : ByteBitmap → (text : List ℕ) → (position count : ℕ) → Type 0
AreIn set text position count = (k : ℕ) → k < count →
    (position + k < length text) × ((slice_index text (position + k) < 128) × (contains set (slice_index text (position + k)) ≡ true))

-- The position is not the end of the text, and the byte after it is not in the set.
pub record IsNextOutside (set : ByteBitmap) (bytes : List ℕ) (position : ℕ) : Type 0 where
  pub before : position < length bytes
  pub byte : get_or bytes position 0 < 256
  pub out : contains set (get_or bytes position 0) ≡ false

-- Where canonical forms are as usual, no match begins with another byte.
abbrev pub BeginsFolded : ByteBitmap → Tree → Type 0
BeginsFolded set t = (setting : Setting) (bytes : List ℕ) (s : MatchState) → HasAsciiCase setting → IsNextOutside set bytes s.position →
    steps setting bytes forwards t s ≡ []

-- The tree is one string that begins with this character, and is compared by canonical forms.
abbrev pub IsFoldedFrom : (c : ℕ) → Tree → Type 0
IsFoldedFrom c t = (rest : List ℕ) × (t ≡ leaf (string_set ((c ∷ rest) ∷ []) true))

-- The interval contains each character with the canonical form of c, where characters without case are the only ones
-- with theirs.
abbrev pub HasClass : Bounds → (c : ℕ) → Type 0
HasClass interval c = (f : ℕ → ℕ) → KeepsCaseless f → (x : ℕ) → f x ≡ f c → IsTrue (is_within interval x)

-- A match of the leaf begins with one of these bytes; of a leaf that matches one character, these are the ASCII
-- characters that it matches.
abbrev pub IsStart : Start → Tree → Type 0
IsStart starts.Any t = Unit {0}
IsStart (starts.Bytes set) t = BeginsWithByteOf set t
IsStart (starts.Folded set) t = BeginsFolded set t
IsStart (starts.Ascii set) t = (takes_one t ≡ true) × ((b : ℕ) → b < 128 → contains set b ≡ test_of t b)

-- The property has at most one proof.
pub IsStart-prop : (start : Start) (t : Tree) → IsProp (IsStart start t)
IsStart-prop starts.Any t = Unit-prop
IsStart-prop (starts.Bytes set) t = hlevel props
IsStart-prop (starts.Folded set) t = hlevel props
IsStart-prop (starts.Ascii set) t = hlevel props
