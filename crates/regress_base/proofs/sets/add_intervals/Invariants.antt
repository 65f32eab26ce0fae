-- The set has the members of the intervals added so far.
use Rattle.std.proofs.Common.{◌≡◌, ℕ, ◌||◌, take}
use Rattle.regress_base.specs.Intervals.{is_member}
use Rattle.regress_base.proofs.sets.add_intervals.Given as goal

abbrev pub invariant-loop-interval : goal.invariant-loop-interval
invariant-loop-interval l = (c : ℕ) → is_member l.set c ≡ (is_member l.initial.set c || is_member (take l.interval-index l.intervals) c)
