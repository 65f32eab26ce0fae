-- Instructions that match an exact number of characters.
use Rattle.std.specs.Prelude.{◌≡◌, ◌≢◌, ℕ, zero, suc, ◌+◌, ◌-◌, ◌*◌, ◌<◌, ◌≤◌, true, List, [], ◌∷◌, IfSome, drop, length, slice_get, slice_index_or, Option, Some, None}
use Rattle.regress_prefilter.specs.OneCharacter.{takes_one}
use Rattle.regress_leaves.specs.Leaves.{GoesTo, exactly}
use Rattle.regress_leaves.specs.Subject.{Subject}
use Rattle.regress_leaves.specs.declared.test.Test.{Test}
use Rattle.regress_tree.specs.Tree.{Tree}
use Rattle.regress_program.specs.Program.{Op, part}
use Rattle.regress_program.specs.Views.{leaf_in}
use Rattle.regress_tables.specs.Bits.{bits_of}
use Rattle.regress_tables.specs.Probes.{digit, jumps_if}
use Rattle.regress_tables.specs.Rows.{row_bit}
use Rattle.regress_tables.specs.Table.{IsNumberAt}
use Rattle.regress_tables.specs.declared.probe.Probe.{Probe}
use Rattle.regress_tables.specs.declared.probe.Probe.TheVariants as probes
use Rattle.regress_tables.specs.declared.repetitions.Repeated.{Repeated}
use Rattle.regress_tables.specs.declared.repetitions.Repetition.{Repetition}
use Rattle.regress_tables.specs.declared.repetitions.Repetitions.{Repetitions}
use Rattle.regress_tables.specs.declared.table.Table.{Table}

-- what a repetition matches
abbrev pub repetition_tree : List Test → Repetition → Tree
repetition_tree leaves r = exactly r.count (leaf_in leaves r.leaf)

-- Each repeats a leaf that matches one character.
abbrev pub RepeatOne : List Test → List Repetition → Type 0
RepeatOne leaves distinct = (k : ℕ) (r : Repetition) → slice_get distinct k ≡ Some r → takes_one (leaf_in leaves r.leaf) ≡ true

-- The instruction with this index matches a repetition.
pub record IsRepeated (leaves : List Test) (ops : List Op) (distinct : List Repetition) (pc : ℕ) (repeated : Repeated) : Type 0 where
  pub repetition : Repetition
  pub at : slice_get distinct repeated.repetition ≡ Some repetition
  pub matches : slice_get ops pc ≡ Some (part (repetition_tree leaves repetition) repeated.next)
  pub next : repeated.next < length ops

-- how many of the instructions that look at the text match no repetition
abbrev pub others_in : (far : List ℕ) → Repetitions → ℕ
others_in far r = length far - length r.uses.items

-- The last of the instructions that look at the text match these repetitions.
pub record AreRepetitions (leaves : List Test) (ops : List Op) (far : List ℕ) (r : Repetitions) : Type 0 where
  pub one : RepeatOne leaves r.distinct.items
  pub count : length r.uses.items ≤ length far
  pub uses : (k pc : ℕ) (repeated : Repeated) → slice_get (drop (others_in far r) far) k ≡ Some pc → slice_get r.uses.items k ≡ Some repeated →
      IsRepeated leaves ops r.distinct.items pc repeated

-- Only where they end may differ.
pub record SameRepetitions (r r' : Repetitions) : Type 0 where
  pub distinct : r'.distinct.items ≡ r.distinct.items
  pub uses : r'.uses.items ≡ r.uses.items

-- It is 1 more than the number of the row at a position, which is another one than `from`, or 0 if there is no position.
abbrev pub IsRowFrom : Table → (from : ℕ) → Option ℕ → (row : ℕ) → Type 0
IsRowFrom t from None row = row ≡ 0
IsRowFrom t from (Some to) row = (to ≢ from) × ((number : ℕ) × IsNumberAt t to number × (row ≡ suc number))

-- A tree leads from a position to this row.
pub record EndsIn (u : Subject) (table : Table) (t : Tree) (position row : ℕ) : Type 0 where
  pub to : Option ℕ
  pub goes : GoesTo u position t to
  pub ends : IsRowFrom table position to row

-- The repetitions lead from a position to these rows.
abbrev pub AreEnds : Subject → List Test → Table → (position : ℕ) → Repetitions → Type 0
AreEnds u leaves table position r = (k : ℕ) (x : Repetition) → slice_get r.distinct.items k ≡ Some x →
    EndsIn u table (repetition_tree leaves x) position (slice_index_or r.ends.items k 0)

-- what an instruction leads to that ends in a row
abbrev pub probe_by : Table → (next row : ℕ) → Probe
probe_by t next zero = probes.Fails
probe_by t next (suc number) = jumps_if (row_bit t number next true)

-- The row where an instruction ends is stored.
abbrev pub IsStored : Table → (ends : List ℕ) → Repeated → Type 0
IsStored t ends repeated = (repeated.next < t.width) × (slice_index_or ends repeated.repetition 0 * (2 * t.width) ≤ length (bits_of t.bits))

-- So it is with each of these.
abbrev pub AreStored : Table → (ends : List ℕ) → List Repeated → Type 0
AreStored t ends [] = Unit {0}
AreStored t ends (repeated ∷ uses) = IsStored t ends repeated × AreStored t ends uses

-- the digits of what instructions lead to that end in these rows
abbrev pub code_by : Table → (ends : List ℕ) → List Repeated → ℕ
code_by t ends [] = 0
code_by t ends (repeated ∷ uses) = code_by t ends uses * 4 + digit (probe_by t repeated.next (slice_index_or ends repeated.repetition 0))

-- These are the digits of the instructions that match repetitions.
pub record IsCode (t : Table) (r : Repetitions) (code : ℕ) : Type 0 where
  pub stored : AreStored t r.ends.items r.uses.items
  pub is : code ≡ code_by t r.ends.items r.uses.items

-- So it is with those that are kept.
abbrev pub IsCoded : Table → Repetitions → Type 0
IsCoded t r = IfSome r.code (IsCode t r)
