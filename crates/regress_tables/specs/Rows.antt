-- Rows by their numbers.
use Rattle.std.specs.Prelude.{ℕ, ◌+◌, ◌*◌, ◌<◌, ◌≤◌, Bool, false, length, slice_index_or}
use Rattle.regress_program.specs.Below.{column}
use Rattle.regress_program.specs.Program.{Out}
use Rattle.regress_tables.specs.Bits.{bits_of}
use Rattle.regress_tables.specs.Table.{Tells}
use Rattle.regress_tables.specs.declared.table.Table.{Table}

-- a bit of the row with a number
abbrev pub row_bit : Table → (number pc : ℕ) (moved : Bool) → Bool
row_bit t number pc moved = slice_index_or (bits_of t.bits) (number * (2 * t.width) + column t.width moved pc) false

-- The row with this number is stored, and tells which states at the position have an outcome.
pub record Represents (out : Out) (t : Table) (number position : ℕ) : Type 0 where
  pub stored : (number + 1) * (2 * t.width) ≤ length (bits_of t.bits)
  pub tells : (pc : ℕ) (moved : Bool) → pc < t.width → Tells out pc moved position (row_bit t number pc moved)
