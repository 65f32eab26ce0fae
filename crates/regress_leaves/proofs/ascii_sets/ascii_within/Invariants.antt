-- Each member is in the set or in the remaining intervals, which ascend.
use Rattle.std.proofs.Common.{◌≡◌, ◌<◌, ◌||◌, ℕ, drop}
use Rattle.regress_base.specs.ByteBitmap.{contains}
use Rattle.regress_base.specs.Intervals.{IsCanonical, is_member}
use Rattle.regress_leaves.proofs.ascii_sets.ascii_within.Given as goal

abbrev pub invariant-loop-interval : goal.invariant-loop-interval
invariant-loop-interval l = record {
  ascend : IsCanonical (drop l.interval-index l.intervals);
  members : (b : ℕ) → b < 128 → (contains l.set b || is_member (drop l.interval-index l.intervals) b) ≡ is_member l.intervals b;
}
