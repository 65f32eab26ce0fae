use Rattle.std.proofs.Common.{◌≡◌, drop, max, List}
use Rattle.regress_leaves.specs.declared.test.Test.{Test}
use Rattle.regress_program.specs.Ranges.{captured_by_all}
use Rattle.regress_program.specs.Views.{ops_in}
use Rattle.regress_program.proofs.inner.captured_by_all.Given as goal

abbrev pub invariant-loop-instruction : goal.invariant-loop-instruction
invariant-loop-instruction l = (leaves : List Test) →
    max l.groups (captured_by_all l.ranges (drop l.instruction-index (ops_in leaves l.instructions))) ≡ captured_by_all l.ranges (ops_in leaves l.instructions)
