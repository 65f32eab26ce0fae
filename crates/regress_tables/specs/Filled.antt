-- The tables of all routines of a program.
use Rattle.std.specs.Prelude.{◌≡◌, ℕ, List, length}
use Rattle.std.proofs.Props.{props}
use Rattle.regress_tree.specs.Steps.{Setting}
use Rattle.regress_program.specs.Program.{Routine, Out, IsSolution}
use Rattle.regress_program.specs.Unique.{Direction-set}
use Rattle.regress_tables.specs.declared.table.Table.{Table}
use Rattle.regress_tables.specs.Table.{AreRight, AreTables}

-- The tables of all routines of a program for a text are full, and tell which states have an outcome.
pub record AreFilled (setting : Setting) (bytes : List ℕ) (program : List Routine) (tables : List Table) : Type 0 where
  pub are : AreTables bytes program tables
  pub all : length tables ≡ length program
  pub right : (outs : ℕ → Out) → IsSolution setting bytes program outs → AreRight outs tables

-- The property has at most one proof.
pub AreFilled-prop : (setting : Setting) (bytes : List ℕ) (program : List Routine) (tables : List Table) → IsProp (AreFilled setting bytes program tables)
AreFilled-prop setting bytes program tables = hlevel (props, Direction-set)
