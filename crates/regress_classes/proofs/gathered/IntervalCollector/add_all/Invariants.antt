-- The set has the members of the intervals of the iterations so far.
use Rattle.std.proofs.Common.{◌≡◌, ℕ, ◌||◌, take}
use Rattle.regress_base.specs.Intervals.{is_member}
use Rattle.regress_classes.proofs.gathered.IntervalCollector.add_all.Given as goal

abbrev pub invariant-loop-interval : goal.invariant-loop-interval
invariant-loop-interval l = (c : ℕ) → is_member l.self c ≡ (is_member l.initial.self c || is_member (take l.interval-index l.intervals) c)
