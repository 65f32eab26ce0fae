-- No name begins so far.
use Rattle.std.proofs.Common.{◌≡◌, length}
use Rattle.regress_warnings.specs.Written.{has_name}
use Rattle.regress_warnings.proofs.written.has_name.Given as goal

abbrev pub invariant-loop-rest : goal.invariant-loop-rest
invariant-loop-rest l = has_name l.fn.written ≡ has_name l.rest

abbrev pub decreases-loop-rest : goal.decreases-loop-rest
decreases-loop-rest l = length l.rest
