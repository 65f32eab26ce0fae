use Rattle.std.proofs.Common.{◌≡◌, false, take}
use Rattle.std.specs.List.{list_any}
use Rattle.regress_program.specs.Linear.{is_reason}
use Rattle.regress_program.specs.Views.{ops_in, program_in}
use Rattle.regress_program.proofs.nonlinear.any_is_reason.Given as goal

-- no instruction so far
abbrev pub invariant-loop-instruction : goal.invariant-loop-instruction
invariant-loop-instruction l = list_any (is_reason (program_in l.leaves l.routines) l.why) (take l.instruction-index (ops_in l.leaves l.instructions)) ≡ false
