-- Nothing switches the flag on before the remaining source.
use Rattle.std.proofs.Common.{◌≡◌, length}
use Rattle.regress_differences.specs.CaseMode.{is_somewhere, switches_on}
use Rattle.regress_differences.proofs.case_mode.is_switched_on.Given as goal

abbrev pub invariant-loop-rest : goal.invariant-loop-rest
invariant-loop-rest l = is_somewhere switches_on l.fn.pattern ≡ is_somewhere switches_on l.rest

abbrev pub decreases-loop-rest : goal.decreases-loop-rest
decreases-loop-rest l = length l.rest
