-- The list has the common members except for those of the remaining intervals on both sides.
use Rattle.std.proofs.Common.{◌+◌, ◌-◌, ◌≤◌, length}
use Rattle.regress_base.proofs.CombineLemmas.{Met}
use Rattle.regress_base.proofs.codepointset.combine.intersection.Given as goal

abbrev pub invariant-loop-i : goal.invariant-loop-i
invariant-loop-i l = record {
  left_in : l.i ≤ length l.left;
  right_in : l.j ≤ length l.right;
  met : Met l.left l.right l.common.items l.i l.j;
}

abbrev pub decreases-loop-i : goal.decreases-loop-i
decreases-loop-i l = (length l.left - l.i) + (length l.right - l.j)
