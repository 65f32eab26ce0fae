-- Such a `.` is in the remaining parts, if it is anywhere.
use Rattle.std.proofs.Common.{◌≡◌, length}
use Rattle.regress_tree.specs.Tree.{trees}
use Rattle.regress_warnings.specs.Digits.{has_dot_between_digits}
use Rattle.regress_warnings.proofs.digits.has_dot_between_digits.Given as goal

abbrev pub invariant-loop-rest : goal.invariant-loop-rest
invariant-loop-rest l = has_dot_between_digits (trees l.fn.parts) ≡ has_dot_between_digits (trees l.rest)

abbrev pub decreases-loop-rest : goal.decreases-loop-rest
decreases-loop-rest l = length l.rest
