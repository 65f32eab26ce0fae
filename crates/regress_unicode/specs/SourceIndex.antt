-- The index of a case mapping: which entries may map a code point to a given one, the target.
use Rattle.std.specs.Prelude.{ℕ, ◌/◌, ◌%◌, ◌<◌, ◌≡◌, ◌==◌, Bool, ◌&&◌, nat_le, false, IsTrue, List, length, take, get_or, slice_index}
use Rattle.std.specs.Int.{bit_at}
use Rattle.regress_base.specs.Intervals.{code_point_max}
use Rattle.regress_base.specs.declared.bytesearch.ascii.AsciiBitmap.{AsciiBitmap}
use Rattle.regress_base.specs.AsciiBitmap.{ascii_contains}
use Rattle.regress_base.specs.Listing.{lists, is_ascending}
use Rattle.regress_unicode.specs.declared.index.SourceIndex.{SourceIndex}
use Rattle.regress_unicode.specs.FoldEntries.{FoldEntry, is_source, has_source}

-- An ASCII character outside the set: what maps to it, the first entry maps.
abbrev pub HasLaterTargets : AsciiBitmap → List FoldEntry → Type 0
HasLaterTargets targets mappings =
    (target c : ℕ) → target < 128 → ascii_contains targets target ≡ false →
    has_source (take 1 mappings) target c ≡ has_source mappings target c

-- Whether a bit is set for the target. The blocks of 64 code points have 64 slots in turn, of 64 bits each.
unfoldable pub has_group : List ℕ → ℕ → ℕ → Bool
has_group groups target bit = bit_at (slice_index groups (target / 64 % 64)) bit == 1

-- Of the first n entries, one that maps a code point to the target has its bit set for it. Four entries in a row have
-- one bit, and those from index 256 on have none.
abbrev pub HasGroups : List ℕ → List FoldEntry → ℕ → Type 0
HasGroups groups mappings n =
    (target c i : ℕ) (d : FoldEntry) → i < n → i < length mappings → i < 256 → has_group groups target (i / 4) ≡ false →
    is_source (get_or mappings i d) target c ≡ false

-- The index is one of these entries.
pub record IsIndexOf (index : SourceIndex) (mappings : List FoldEntry) : Type 0 where
  pub later : HasLaterTargets index.later mappings
  pub groups : HasGroups index.groups mappings (length mappings)

-- The list has the code points that the first n entries map to the target, ascending.
pub record ListsSources (list : List ℕ) (mappings : List FoldEntry) (n target : ℕ) : Type 0 where
  pub ascending : IsTrue (is_ascending list)
  pub members : (x : ℕ) → lists list x ≡ (nat_le x code_point_max && has_source (take n mappings) target x)
