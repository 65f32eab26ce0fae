-- The intervals before the remaining ones have only digits.
use Rattle.std.proofs.Common.{◌≡◌, length}
use Rattle.std.specs.List.{list_all}
use Rattle.regress_warnings.specs.Digits.{are_digits}
use Rattle.regress_warnings.proofs.digits.are_digits.Given as goal

abbrev pub invariant-loop-rest : goal.invariant-loop-rest
invariant-loop-rest l = list_all are_digits l.fn.intervals ≡ list_all are_digits l.rest

abbrev pub decreases-loop-rest : goal.decreases-loop-rest
decreases-loop-rest l = length l.rest
