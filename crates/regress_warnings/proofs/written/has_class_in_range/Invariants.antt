-- No part so far is such a range.
use Rattle.std.proofs.Common.{◌≡◌, length}
use Rattle.regress_warnings.specs.Written.{has_class_in_range}
use Rattle.regress_warnings.proofs.written.has_class_in_range.Given as goal

abbrev pub invariant-loop-rest : goal.invariant-loop-rest
invariant-loop-rest l = has_class_in_range l.fn.members ≡ has_class_in_range l.rest

abbrev pub decreases-loop-rest : goal.decreases-loop-rest
decreases-loop-rest l = length l.rest
