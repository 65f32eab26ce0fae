-- Searching by tables.
use Rattle.std.specs.Prelude.{◌≡◌, ℕ, ◌≤◌, true, List, [], ◌∷◌, length, slice_get, Option, Some, None}
use Rattle.regress_leaves.specs.Subject.{Subject, subject}
use Rattle.regress_tree.specs.Reading.{direction_if}
use Rattle.regress_tree.specs.Steps.{CaptureSpan, MatchState}
use Rattle.regress_found.specs.Found.{initial_state}
use Rattle.regress_program.specs.Below.{row_of}
use Rattle.regress_program.specs.Program.{Out, Routine, IsSolution, matcher_of}
use Rattle.regress_program.specs.Ranges.{inner_groups}
use Rattle.regress_program.specs.Tidy.{is_tabled}
use Rattle.regress_code.specs.Code.{code_routines, code_tidy}
use Rattle.regress_tables.specs.declared.filled.Filled.{Filled}
use Rattle.regress_tables.specs.declared.first.FirstOutcome.{FirstOutcome}
use Rattle.regress_tables.specs.declared.row_set.RowSet.{RowSet}
use Rattle.regress_tables.specs.declared.slots.Slot.{Slot}
use Rattle.regress_tables.specs.declared.slots.Slot.TheVariants as slots
use Rattle.regress_tables.specs.declared.table.Table.{Table}
use Rattle.regress_tables.specs.Filled.{AreFilled}
use Rattle.regress_tables.specs.RowSets.{Has}
use Rattle.regress_tables.specs.Slots.{AreInside, capture_in, resolved, value}
use Rattle.regress_tables.specs.Table.{number_of}

-- the program, and the text with the flags and case mappings
abbrev pub program_in : Filled → List Routine
program_in f = code_routines f.input.code.now

abbrev pub subject_of : Filled → Subject
subject_of f = subject f.input.rules f.input.text.now

-- The program is searched by tables, and these are its tables.
pub record IsSearchable (f : Filled) : Type 0 where
  pub tabled : is_tabled (code_tidy f.input.code.now) (program_in f) ≡ true
  pub inner : f.inner ≡ inner_groups (program_in f)
  pub filled : AreFilled (subject_of f).setting f.input.text.now (program_in f) f.input.tables.now

-- the number of instructions of a routine
abbrev pub width_at : List Routine → (index : ℕ) → ℕ
width_at program index = width (slice_get program index)
  where
    width : Option Routine → ℕ
    width None = 0
    width (Some r) = length r.ops

-- the outcomes of a routine from a position, with n groups that are unset
abbrev pub outcomes_in : Filled → (ℕ → Out) → (index n position : ℕ) → List MatchState
outcomes_in f outs index n position = matcher_of (subject_of f).setting f.input.text.now (program_in f) outs index (initial_state n position)

-- what lookarounds capture
abbrev pub captures_in : Filled → (ℕ → Out) → (n : ℕ) → (routine position id : ℕ) → Option CaptureSpan
captures_in f outs n = capture_in (subject_of f).setting f.input.text.now (program_in f) outs n

abbrev pub Solves : Filled → (ℕ → Out) → Type 0
Solves f outs = IsSolution (subject_of f).setting f.input.text.now (program_in f) outs

-- It is the first outcome of the routine, or there is none.
abbrev pub IsFirstOutcome : Filled → (index n position : ℕ) → Option FirstOutcome → Type 0
IsFirstOutcome f index n position None = (outs : ℕ → Out) → Solves f outs → outcomes_in f outs index n position ≡ []
IsFirstOutcome f index n position (Some o) = (outs : ℕ → Out) → Solves f outs → (rest : List MatchState) ×
    (outcomes_in f outs index n position ≡ record { position = o.end; captures = resolved (captures_in f outs n) o.slots.items } ∷ rest)

-- The routine has no outcome from any position whose row has this number.
abbrev pub HasNoneIn : Filled → (index number : ℕ) → Type 0
HasNoneIn f index number = (t : Table) (n position : ℕ) → slice_get f.input.tables.now index ≡ Some t → position ≤ length f.input.text.now →
    number_of t (row_of (direction_if t.backwards) t.length position) ≡ number → IsFirstOutcome f index n position None

-- Nor from any whose row has a number of the set.
abbrev pub HasNoneInAny : Filled → (index : ℕ) → RowSet → Type 0
HasNoneInAny f index rows = (number : ℕ) → Has rows number → HasNoneIn f index number

-- The outcome ends inside the text, and lookarounds of earlier routines have set its groups.
pub record IsEnd (f : Filled) (index n : ℕ) (o : FirstOutcome) : Type 0 where
  pub inside : o.end ≤ length f.input.text.now
  pub captures : AreInside index (length f.input.text.now) f.inner o.slots.items
  pub count : length o.slots.items ≡ n

-- The captures stay the same, and now only the first `routines` routines have set groups.
pub record AreResolved (f : Filled) (routines : ℕ) (before after : List Slot) : Type 0 where
  pub count : length after ≡ length before
  pub inside : AreInside routines (length f.input.text.now) f.inner after
  pub same : (outs : ℕ → Out) → Solves f outs → resolved (captures_in f outs (length before)) after ≡ resolved (captures_in f outs (length before)) before

-- Where the routine has set a group from this position, the slot is the one of `found`; else it is as before.
pub record AreTaken (routine position : ℕ) (found before after : List Slot) : Type 0 where
  pub count : length after ≡ length before
  pub taken : (id : ℕ) → slice_get before id ≡ Some (slots.Inside routine position) → slice_get after id ≡ slice_get found id
  pub kept : (id : ℕ) → (slice_get before id ≡ Some (slots.Inside routine position) → ⊥) → slice_get after id ≡ slice_get before id

-- The slots mean what the routine captures from a position, where no group is set before.
pub record AreFound (f : Filled) (routine position : ℕ) (found : List Slot) : Type 0 where
  pub captures : (outs : ℕ → Out) → Solves f outs → (id : ℕ) (s : Slot) → slice_get found id ≡ Some s →
      value (captures_in f outs (length found)) id s ≡ captures_in f outs (length found) routine position id
  pub inside : AreInside routine (length f.input.text.now) f.inner found
