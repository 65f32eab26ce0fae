use Rattle.std.proofs.Common.{◌≡◌, drop, List}
use Rattle.regress_leaves.specs.declared.test.Test.{Test}
use Rattle.regress_program.specs.Ranges.{changed_by_all}
use Rattle.regress_program.specs.Views.{ops_in}
use Rattle.regress_program.proofs.ranges.changed_by_all.Given as goal

-- the range of the instructions from the last index on
abbrev pub invariant-loop-i : goal.invariant-loop-i
invariant-loop-i l = (leaves : List Test) → l.range ≡ changed_by_all l.earlier (drop l.i (ops_in leaves l.instructions))
