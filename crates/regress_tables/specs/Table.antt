-- Tables: which states of a routine have an outcome.
use Rattle.std.specs.Prelude.{◌≡◌, ℕ, ◌+◌, ◌-◌, ◌*◌, ◌≤◌, ◌<◌, Bool, true, false, List, [], ◌∷◌, ◌++◌, length, take, drop, flat_map, slice_get, slice_index_or, Some}
use Rattle.regress_tree.specs.Reading.{direction_if}
use Rattle.regress_tree.specs.Steps.{MatchState}
use Rattle.regress_program.specs.Below.{place, row_of}
use Rattle.regress_program.specs.Program.{Routine, At, Out}
use Rattle.regress_tables.specs.Bits.{bits_of}
use Rattle.regress_tables.specs.Numbers.{numbers_of}
use Rattle.regress_tables.specs.declared.table.Table.{Table}

-- There is an outcome.
abbrev pub has_outcome : List MatchState → Bool
has_outcome [] = false
has_outcome (s ∷ ss) = true

-- The bit tells whether there is an outcome from an instruction, at a position, whatever the captures are and wherever
-- the open groups began.
abbrev pub Tells : Out → (pc : ℕ) (moved : Bool) (position : ℕ) → Bool → Type 0
Tells out pc moved position bit = (a : At) → a.pc ≡ pc → a.moved ≡ moved → a.state.position ≡ position → has_outcome (out a) ≡ bit

-- the index of the bit of a state
abbrev pub index : Table → (pc : ℕ) (moved : Bool) (position : ℕ) → ℕ
index t pc moved position = place t.width t.length (direction_if t.backwards) pc moved position

-- the bits of the row with a number
abbrev pub row_bits : Table → (number : ℕ) → List Bool
row_bits t number = take (2 * t.width) (drop (number * (2 * t.width)) (bits_of t.bits))

-- the bits of the states that were evaluated so far, in order: those of the rows that have a number, then the others
unfoldable pub evaluated : Table → List Bool
evaluated t = flat_map (row_bits t) (numbers_of t.rows) ++ drop (t.distinct * (2 * t.width)) (bits_of t.bits)

-- The number of a row. Those that have none yet are stored in order.
abbrev pub number_of : Table → (row : ℕ) → ℕ
number_of t row = slice_index_or (numbers_of t.rows) row (t.distinct + (row - length (numbers_of t.rows)))

-- The row at a position has a number, and this is it.
abbrev pub IsNumberAt : Table → (position number : ℕ) → Type 0
IsNumberAt t position number = (position ≤ t.length) × (row_of (direction_if t.backwards) t.length position < length (numbers_of t.rows))
    × (number ≡ number_of t (row_of (direction_if t.backwards) t.length position))

-- the bit of a state
unfoldable pub cell : Table → (pc : ℕ) (moved : Bool) (position : ℕ) → Bool
cell t pc moved position = slice_index_or (evaluated t) (index t pc moved position) false

-- the number of bits of a full table
abbrev pub size : Table → ℕ
size t = (t.length + 1) * (2 * t.width)

-- Each bit so far tells whether its state has an outcome.
pub record IsRight (out : Out) (t : Table) : Type 0 where
  pub tells : (pc : ℕ) (moved : Bool) (position : ℕ) → pc < t.width → position ≤ t.length →
      index t pc moved position < length (evaluated t) → Tells out pc moved position (cell t pc moved position)

-- a table for a routine and a text
pub record IsTableOf (bytes : List ℕ) (r : Routine) (t : Table) : Type 0 where
  pub width : t.width ≡ length r.ops
  pub text : t.length ≡ length bytes
  pub direction : direction_if t.backwards ≡ r.direction

-- Every state was evaluated.
abbrev pub IsFull : Table → Type 0
IsFull t = length (evaluated t) ≡ size t

-- the full tables of the first routines of a program
pub record AreTables (bytes : List ℕ) (program : List Routine) (tables : List Table) : Type 0 where
  pub few : length tables ≤ length program
  pub of : (i : ℕ) (r : Routine) (t : Table) → slice_get program i ≡ Some r → slice_get tables i ≡ Some t → IsTableOf bytes r t
  pub full : (i : ℕ) (t : Table) → slice_get tables i ≡ Some t → IsFull t

-- Each of the tables tells which states of its routine have an outcome.
abbrev pub AreRight : (ℕ → Out) → List Table → Type 0
AreRight outs tables = (i : ℕ) (t : Table) → slice_get tables i ≡ Some t → IsRight (outs i) t

-- The bit tells whether these outcomes exist, from a position, whatever the captures are and wherever the open groups
-- began.
abbrev pub TellsOf : Out → (moved : Bool) (position : ℕ) → Bool → Type 0
TellsOf f moved position bit = (a : At) → a.moved ≡ moved → a.state.position ≡ position → has_outcome (f a) ≡ bit

-- The state is the next one to evaluate.
pub record IsNext (t : Table) (pc : ℕ) (moved : Bool) (position : ℕ) : Type 0 where
  pub pc_in : pc < t.width
  pub position_in : position ≤ t.length
  pub at : index t pc moved position ≡ length (evaluated t)

-- Only the bits may differ.
pub record SameShape (t t' : Table) : Type 0 where
  pub width : t'.width ≡ t.width
  pub length : t'.length ≡ t.length
  pub backwards : t'.backwards ≡ t.backwards

-- These bits are added, of the rows that have no number yet.
pub record Grows (t t' : Table) (extra : List Bool) : Type 0 where
  pub shape : SameShape t t'
  pub rows : numbers_of t'.rows ≡ numbers_of t.rows
  pub distinct : t'.distinct ≡ t.distinct
  pub bits : bits_of t'.bits ≡ bits_of t.bits ++ extra
