use Rattle.std.proofs.Common.{◌≡◌, false, take, List}
use Rattle.std.specs.List.{list_any}
use Rattle.regress_leaves.specs.declared.test.Test.{Test}
use Rattle.regress_program.specs.Linear.{changes_captures}
use Rattle.regress_program.specs.Views.{ops_in}
use Rattle.regress_program.proofs.capturing.any_changes.Given as goal

-- no instruction so far
abbrev pub invariant-loop-instruction : goal.invariant-loop-instruction
invariant-loop-instruction l = (leaves : List Test) → list_any changes_captures (take l.instruction-index (ops_in leaves l.instructions)) ≡ false
