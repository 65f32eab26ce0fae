-- ECMA-262, 22.2.2.7.1 CharacterSetMatcher and 22.2.2.7.2 BackreferenceMatcher. Numbers in comments are those of the
-- clause's steps.
use Rattle.std.specs.Prelude.{ℕ, ◌+◌, ◌-◌, min, Bool, not, ◌==◌, nat_le, List, [], ◌∷◌, take, drop, length, slice_get, get_or, Option, Some, None, if◌then◌else◌}
use Rattle.std.specs.List.{starts_with}
use Rattle.regress_base.specs.Intervals.{is_member}
use Rattle.regress_base.specs.Table.{Table}
use Rattle.regress_base.specs.declared.types.Flags.{Flags}
use Rattle.regress_tree.specs.Reading.{Direction, forwards, backwards}
use Rattle.regress_ecma.specs.Notation.{CharSet, CaptureRange, failure, Matcher}
use Rattle.regress_ecma.specs.Characters.{canonicalize, has_some}

-- the index `len` after e, or before it when matching backwards; `None` below 0 or above the length of the input: 2.e to
-- 2.h of CharacterSetMatcher, and 1.l to 1.o of BackreferenceMatcher
abbrev pub index_by : Direction → (input_length e len : ℕ) → Option ℕ
index_by forwards input_length e len = if nat_le (e + len) input_length then Some (e + len) else None
index_by backwards input_length e len = if nat_le len e then Some (e - len) else None

module _ (table : Table) (rer : Flags) where
  -- 22.2.2.7.1 CharacterSetMatcher, 2.k and 2.l: whether some member of the set has the canonical form of ch. Without the
  -- flag i this is ch itself.
  abbrev pub is_found : CharSet → ℕ → Bool
  is_found set ch =
      if rer.icase then has_some (λ a. canonicalize table rer a == canonicalize table rer ch) set else is_member set ch

  -- 22.2.2.7.1, from 2.k on, where f is the index on the other side of the character ch
  abbrev pub match_character : CharSet → (invert : Bool) → (f : ℕ) → Option ℕ → Matcher
  match_character set invert f None x c = failure
  match_character set invert f (Some ch) x c =
      let found : Bool = is_found set ch in
      -- 2.m to 2.q
      if (if invert then found else not found) then failure else c (record x { end_index = f })

  -- 22.2.2.7.1 CharacterSetMatcher
  unfoldable pub character_set_matcher : CharSet → (invert : Bool) → Direction → Matcher
  character_set_matcher set invert d x c =
      -- 2.e to 2.h
      elim (index_by d (length x.input) x.end_index 1) [
        | None ↦ failure
        -- 2.i and 2.j
        | Some f ↦ match_character set invert f (slice_get x.input (min x.end_index f)) x c
      ]

  -- the range of the first of the groups that has one: 1.e and 1.f of BackreferenceMatcher, which asserts that no other
  -- one has
  abbrev pub range_of_any : List (Option CaptureRange) → List ℕ → Option CaptureRange
  range_of_any captures [] = None
  range_of_any captures (n ∷ ns) =
      elim (get_or captures (n - 1) None) [ Some r ↦ Some r | None ↦ range_of_any captures ns ]

  -- the same canonical form
  abbrev pub is_same : ℕ → ℕ → Bool
  is_same a b = canonicalize table rer b == canonicalize table rer a

  -- 22.2.2.7.2, from 1.k on, for the text of the range r
  abbrev pub match_range : Direction → CaptureRange → Matcher
  match_range d r x c =
      let len : ℕ = r.1 - r.0 in
      -- 1.l to 1.o
      elim (index_by d (length x.input) x.end_index len) [
        | None ↦ failure
        -- 1.p to 1.s
        | Some f ↦
            (if starts_with is_same (drop (min x.end_index f) x.input) (take len (drop r.0 x.input))
            then c (record x { end_index = f })
            else failure)
      ]

  -- 22.2.2.7.2 BackreferenceMatcher, to the groups with the numbers ns
  unfoldable pub backreference_matcher : (ns : List ℕ) → Direction → Matcher
  -- 1.g
  backreference_matcher ns d x c =
      elim (range_of_any x.captures ns) [ None ↦ c x | Some r ↦ match_range d r x c ]
