-- The bytes are those of the instructions so far.
use Rattle.std.proofs.Common.{◌≡◌, ℕ, ◌<◌, Some, slice_get}
use Rattle.regress_leaves.specs.Subject.{subject}
use Rattle.regress_program.specs.Listed.{listed}
use Rattle.regress_program.specs.Program.{Op}
use Rattle.regress_program.specs.Views.{ops_in}
use Rattle.regress_tables.specs.Memo.{AreBytesOf}
use Rattle.regress_tables.proofs.memo.far_bytes_of.Given as goal

abbrev pub invariant-loop-k : goal.invariant-loop-k
invariant-loop-k l = (j pc : ℕ) (op : Op) → j < l.k → slice_get l.far j ≡ Some pc →
    slice_get (ops_in l.input.code.now.program.leaves.items (listed l.routine)) pc ≡ Some op →
    (let u = subject l.input.rules l.input.text.now in AreBytesOf u.setting u.bytes u.direction op l.bytes)
