use Rattle.std.proofs.Common.{◌≡◌, false, take}
use Rattle.std.specs.List.{list_any}
use Rattle.regress_program.specs.Linear.{is_reason}
use Rattle.regress_program.specs.Program.{Routine}
use Rattle.regress_program.specs.Views.{program_in}
use Rattle.regress_program.proofs.nonlinear.has_reason.Given as goal

-- no routine so far
abbrev pub invariant-loop-routine : goal.invariant-loop-routine
invariant-loop-routine l =
    list_any (λ (r : Routine). list_any (is_reason (program_in l.leaves l.routines) l.why) r.ops) (take l.routine-index (program_in l.leaves l.routines)) ≡ false
