-- The instructions so far are listed, or near.
use Rattle.std.proofs.Common.{◌≡◌, ℕ, ◌<◌, ◌⊎◌, Some, slice_get}
use Rattle.regress_program.specs.Listed.{listed}
use Rattle.regress_program.specs.Program.{Op}
use Rattle.regress_program.specs.Views.{ops_in}
use Rattle.regress_tables.specs.Memo.{IsNear}
use Rattle.regress_tables.proofs.memo.far_of.Given as goal

abbrev pub invariant-loop-pc : goal.invariant-loop-pc
invariant-loop-pc l = (pc : ℕ) (op : Op) → pc < l.pc → slice_get (ops_in l.input.code.now.program.leaves.items (listed l.routine)) pc ≡ Some op →
    IsNear op ⊎ ((k : ℕ) × (slice_get l.far.items k ≡ Some pc))
