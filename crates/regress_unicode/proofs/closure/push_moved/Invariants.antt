-- The list and the intervals have what the intervals so far are mapped to.
use Rattle.std.proofs.Common.{◌≡◌, ℕ, ◌||◌, take}
use Rattle.regress_base.specs.Intervals.{is_member}
use Rattle.regress_unicode.specs.Shifts.{maps_to}
use Rattle.regress_unicode.proofs.closure.push_moved.Given as goal

abbrev pub invariant-loop-interval : goal.invariant-loop-interval
invariant-loop-interval l =
    (x : ℕ) → (is_member l.intervals x || is_member l.found.items x) ≡
    ((is_member l.intervals x || is_member l.fn.found.items x) || maps_to l.shift (is_member (take l.interval-index l.intervals)) x)
