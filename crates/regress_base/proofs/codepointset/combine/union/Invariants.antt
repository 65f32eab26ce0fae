-- The set has the members of the intervals added so far.
use Rattle.std.proofs.Common.{◌≡◌, ℕ, ◌+◌, ◌-◌, ◌≤◌, ◌||◌, length, take}
use Rattle.regress_base.specs.Intervals.{is_member}
use Rattle.regress_base.proofs.codepointset.combine.union.Given as goal

abbrev pub invariant-loop-i : goal.invariant-loop-i
invariant-loop-i l = record {
  left_in : l.i ≤ length l.left;
  right_in : l.j ≤ length l.right;
  members : (c : ℕ) → is_member l.joined c ≡ (is_member (take l.i l.left) c || is_member (take l.j l.right) c);
}

abbrev pub decreases-loop-i : goal.decreases-loop-i
decreases-loop-i l = (length l.left - l.i) + (length l.right - l.j)
