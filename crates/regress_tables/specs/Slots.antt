-- What a walk knows of captures.
use Rattle.std.specs.Prelude.{◌≡◌, ℕ, ◌+◌, ◌≤◌, ◌<◌, Bool, false, true, List, [], ◌∷◌, slice_get, Option, Some, None}
use Rattle.regress_tree.specs.Steps.{CaptureSpan, Setting}
use Rattle.regress_program.specs.Isolated.{Captures, capture_at, captures_from}
use Rattle.regress_program.specs.Program.{Out, Routine}
use Rattle.regress_program.specs.Ranges.{ranges_of}
use Rattle.regress_program.specs.Contents.{Ids}
use Rattle.regress_program.specs.Tidy.{IsTidyFrom}
use Rattle.regress_tables.specs.declared.slots.Slot.{Slot}
use Rattle.regress_tables.specs.declared.slots.Slot.TheVariants as slots

-- the capture of a group by the first outcome of a routine from a position, where n groups are unset
abbrev pub capture_in : (setting : Setting) (bytes : List ℕ) (program : List Routine) (outs : ℕ → Out) (n : ℕ) → (routine position id : ℕ) → Option CaptureSpan
capture_in setting bytes program outs n routine position id = capture_at (captures_from setting bytes program outs n routine position) id

module _ (capture_of : (routine position id : ℕ) → Option CaptureSpan) where
  -- the capture of the group `id`
  abbrev pub value : (id : ℕ) → Slot → Option CaptureSpan
  value id slots.Unset = None
  value id (slots.Span from to) = Some (from, to)
  value id (slots.Inside routine position) = capture_of routine position id

  -- the captures of the groups from `id` on
  abbrev pub resolved_from : (id : ℕ) → List Slot → Captures
  resolved_from id [] = []
  resolved_from id (s ∷ ss) = value id s ∷ resolved_from (id + 1) ss

  -- the captures of all groups
  abbrev pub resolved : List Slot → Captures
  resolved ss = resolved_from 0 ss

-- What lookarounds have set: by the first `routines` routines, at positions up to n, and groups before `inner`.
abbrev pub AreInside : (routines n inner : ℕ) → List Slot → Type 0
AreInside routines n inner ss = (id routine position : ℕ) → slice_get ss id ≡ Some (slots.Inside routine position) →
    (routine < routines) × (position ≤ n) × (id < inner)

-- The group is set.
abbrev pub is_set : Option Slot → Bool
is_set None = false
is_set (Some slots.Unset) = false
is_set (Some (slots.Span from to)) = true
is_set (Some (slots.Inside routine position)) = true

-- the groups that are set
abbrev pub set_groups : List Slot → Ids
set_groups ss id = is_set (slice_get ss id)

-- From the instruction on the routine is tidy, where these groups are set.
abbrev pub IsClean : (program : List Routine) → Routine → (pc : ℕ) → List Slot → Type 0
IsClean program r pc ss = (n : ℕ) → IsTidyFrom (ranges_of program) r.ops n pc (set_groups ss)
