-- A walk through the instructions of the first outcome.
use Rattle.std.specs.Prelude.{◌≡◌, ℕ, ◌+◌, ◌<◌, ◌≤◌, Bool, true, false, not, List, ◌++◌, length, take, reverse, slice_get, Option, Some, None, if◌then◌else◌}
use Rattle.regress_tree.specs.Steps.{CaptureSpan, MatchState}
use Rattle.regress_program.specs.declared.ranges.GroupRange.{GroupRange}
use Rattle.regress_program.specs.Linear.{is_back_reference}
use Rattle.regress_program.specs.Program.{Op, At, Out, Routine, goto, enter}
use Rattle.regress_program.specs.Ranges.{IsIn}
use Rattle.regress_program.specs.Shape.{Fits}
use Rattle.regress_code.specs.Code.{code_routines}
use Rattle.regress_tables.specs.declared.evaluate.Input.{Input}
use Rattle.regress_tables.specs.declared.table.Table.{Table}
use Rattle.regress_tables.specs.declared.slots.Slot.{Slot}
use Rattle.regress_tables.specs.declared.slots.Slot.TheVariants as slots
use Rattle.regress_tables.specs.declared.walker.Walker.{Walker}
use Rattle.regress_tables.specs.Slots.{IsClean, resolved}
use Rattle.regress_tables.specs.Table.{cell, has_outcome}

-- where a walk is, by what lookarounds capture
abbrev pub at_of : (capture_of : (routine position id : ℕ) → Option CaptureSpan) → Walker → At
at_of capture_of w = record {
  pc = w.pc;
  moved = w.moved;
  state = record { position = w.position; captures = resolved capture_of w.slots.items };
  begins = reverse w.begins.items;
}

-- where a walk is, whatever lookarounds capture
abbrev pub place_of : Walker → At
place_of w = at_of (λ routine position id. None) w

-- The slots of the groups in the range are set to this one.
pub record SlotsSet (range : GroupRange) (slot : Slot) (before after : List Slot) : Type 0 where
  pub count : length after ≡ length before
  pub inside : (id : ℕ) → id < length before → IsIn range id → slice_get after id ≡ Some slot
  pub outside : (id : ℕ) → (IsIn range id → ⊥) → slice_get after id ≡ slice_get before id

-- The groups start to end - 1 are unset.
abbrev pub UnsetSlots : (start end : ℕ) → (before after : List Slot) → Type 0
UnsetSlots start end = SlotsSet (record { start = start; end = end }) slots.Unset

-- The routine sets the groups of the range, from a position.
abbrev pub SetInside : GroupRange → (routine position : ℕ) → (before after : List Slot) → Type 0
SetInside range routine position = SlotsSet range (slots.Inside routine position)

-- The group has captured a span.
pub record OneSpan (id : ℕ) (before after : List Slot) : Type 0 where
  pub from : ℕ
  pub to : ℕ
  pub set : SlotsSet (record { start = id; end = id + 1 }) (slots.Span from to) before after

-- An iteration is begun: it is preferred and has an outcome, or what follows has none.
abbrev pub iterates : Table → (greedy : Bool) (body next : ℕ) → At → Bool
iterates t greedy body next a = if greedy then cell t body false a.state.position else not (cell t next a.moved a.state.position)

-- one more iteration, or what follows
abbrev pub chosen : Table → (greedy : Bool) (body next : ℕ) → At → At
chosen t greedy body next a = if iterates t greedy body next a then enter body a else goto next a

-- the alternative that is taken
abbrev pub alternative : Table → (first second : ℕ) → At → ℕ
alternative t first second a = if cell t first a.moved a.state.position then first else second

-- A walk is at this instruction, of a routine whose table is full.
pub record CanWalk (input : Input) (t : Table) (op : Op) (a : At) : Type 0 where
  pub pc : a.pc < t.width
  pub position : a.state.position ≤ t.length
  pub fits : Fits (take (length input.tables.now) (code_routines input.code.now)) t.width a.pc op
  pub no_reference : is_back_reference op ≡ false
  pub length : t.length ≡ length input.text.now
  pub backwards : t.backwards ≡ input.rules.backwards

-- A walk of a routine is at this instruction, where the groups that it claims are unset.
pub record StepsAt (input : Input) (op : Op) (w : Walker) : Type 0 where
  pub routine : Routine
  pub is : slice_get (code_routines input.code.now) (length input.tables.now) ≡ Some routine
  pub here : slice_get routine.ops w.pc ≡ Some op
  pub clean : IsClean (code_routines input.code.now) routine w.pc w.slots.items

-- The first of the states is the first outcome from b.
pub record Leads (states : List MatchState) (out : Out) (b : At) : Type 0 where
  pub rest : List MatchState
  pub first : states ≡ out b ++ rest
  pub some : has_outcome (out b) ≡ true
