-- No interval before the remaining ones is such a range.
use Rattle.std.proofs.Common.{◌≡◌, length}
use Rattle.regress_warnings.specs.Classes.{has_letter_range}
use Rattle.regress_warnings.proofs.classes.has_letter_range.Given as goal

abbrev pub invariant-loop-rest : goal.invariant-loop-rest
invariant-loop-rest l = has_letter_range l.fn.intervals ≡ has_letter_range l.rest

abbrev pub decreases-loop-rest : goal.decreases-loop-rest
decreases-loop-rest l = length l.rest
