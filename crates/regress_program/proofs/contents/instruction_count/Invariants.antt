use Rattle.std.proofs.Common.{◌≡◌, List, min, take}
use Rattle.regress_leaves.specs.declared.test.Test.{Test}
use Rattle.regress_program.specs.Compiled.{total}
use Rattle.regress_program.specs.Views.{program_in}
use Rattle.regress_program.proofs.contents.instruction_count.Given as goal

abbrev pub invariant-loop-routine : goal.invariant-loop-routine
invariant-loop-routine l = (leaves : List Test) →
    l.count ≡ min (total (take l.routine-index (program_in leaves l.routines))) 18446744073709551615
