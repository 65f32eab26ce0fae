use Rattle.std.proofs.Common.{◌≡◌, drop, max, List}
use Rattle.regress_leaves.specs.declared.test.Test.{Test}
use Rattle.regress_program.specs.Ranges.{captured_in}
use Rattle.regress_program.specs.Views.{program_in}
use Rattle.regress_program.proofs.inner.inner_groups.Given as goal

abbrev pub invariant-loop-routine : goal.invariant-loop-routine
invariant-loop-routine l = (leaves : List Test) →
    max l.groups (captured_in l.ranges (drop l.routine-index (program_in leaves l.routines))) ≡ captured_in l.ranges (program_in leaves l.routines)
