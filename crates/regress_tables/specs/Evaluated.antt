-- What evaluating an instruction needs.
use Rattle.std.specs.Prelude.{◌≡◌, ℕ, ◌==◌, Bool, false, not, ◌||◌, length, take, slice_get, Option, Some, None, if◌then◌else◌}
use Rattle.regress_prefilter.specs.OneCharacter.{test_of}
use Rattle.regress_tree.specs.Tree.{Tree}
use Rattle.regress_leaves.specs.Subject.{subject}
use Rattle.regress_program.specs.Linear.{is_back_reference}
use Rattle.regress_program.specs.Program.{Op, Routine, Out, IsSolution}
use Rattle.regress_program.specs.Shape.{Fits}
use Rattle.regress_code.specs.Code.{code_routines}
use Rattle.regress_tables.specs.declared.evaluate.Input.{Input}
use Rattle.regress_tables.specs.declared.table.Table.{Table}
use Rattle.regress_tables.specs.Table.{cell, IsNext, IsTableOf, AreRight, IsRight}

-- the bit after a part that ends at a position, or none
abbrev pub reached_cell : Table → (next : ℕ) (moved : Bool) (position : ℕ) → Option ℕ → Bool
reached_cell t next moved position None = false
reached_cell t next moved position (Some q) = cell t next (moved || not (q == position)) q

-- A leaf that matches one character ends at this position. The next character was read, with the position after it.
abbrev pub IsOneEnd : Tree → (read : Option (ℕ × ℕ)) (to : Option ℕ) → Type 0
IsOneEnd t None to = to ≡ None
IsOneEnd t (Some read) to = to ≡ (if test_of t read.0 then Some read.1 else None)

-- The bit that is evaluated next is that of this instruction. It is no back reference, and refers to earlier instructions
-- and to routines whose tables are full.
pub record CanEvaluate (input : Input) (t : Table) (op : Op) (moved : Bool) (position : ℕ) : Type 0 where
  pub pc : ℕ
  pub next : IsNext t pc moved position
  pub fits : Fits (take (length input.tables.now) (code_routines input.code.now)) t.width pc op
  pub no_reference : is_back_reference op ≡ false
  pub length : t.length ≡ length input.text.now
  pub backwards : t.backwards ≡ input.rules.backwards

-- The table is that of the routine after those whose tables are full.
pub record CanFill (input : Input) (r : Routine) (t : Table) : Type 0 where
  pub is : slice_get (code_routines input.code.now) (length input.tables.now) ≡ Some r
  pub of : IsTableOf input.text.now r t
  pub backwards : t.backwards ≡ input.rules.backwards

-- With any outcomes of the program, if the tables before are right, so is this one.
abbrev pub IsFilled : Input → Table → Type 0
IsFilled input t = (outs : ℕ → Out) → IsSolution (subject input.rules input.text.now).setting input.text.now (code_routines input.code.now) outs →
    AreRight outs input.tables.now → IsRight (outs (length input.tables.now)) t
