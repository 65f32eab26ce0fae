-- No bar so far is between such characters.
use Rattle.std.proofs.Common.{◌≡◌, length}
use Rattle.regress_warnings.specs.Written.{divides}
use Rattle.regress_warnings.proofs.written.divides.Given as goal

abbrev pub invariant-loop-rest : goal.invariant-loop-rest
invariant-loop-rest l = divides l.fn.written ≡ divides l.rest

abbrev pub decreases-loop-rest : goal.decreases-loop-rest
decreases-loop-rest l = length l.rest
