-- Each member is among the remaining ones, or its first byte is in the set.
use Rattle.std.proofs.Common.{◌≡◌, ◌⊎◌, ℕ, true, drop}
use Rattle.regress_base.specs.ByteBitmap.{contains}
use Rattle.regress_base.specs.Intervals.{is_member}
use Rattle.regress_prefilter.specs.FirstSets.{IsCovered}
use Rattle.regress_prefilter.proofs.first_sets.add_intervals.Given as goal

abbrev pub invariant-loop-interval : goal.invariant-loop-interval
invariant-loop-interval l = (c : ℕ) → is_member l.intervals c ≡ true → (is_member (drop l.interval-index l.intervals) c ≡ true) ⊎ IsCovered (contains l.set) c
