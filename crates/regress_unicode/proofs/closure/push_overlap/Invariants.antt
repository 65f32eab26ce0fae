-- The list and the interval have what the code points so far are mapped to.
use Rattle.std.proofs.Common.{◌≡◌, ℕ, ◌||◌}
use Rattle.regress_base.specs.Intervals.{is_member, is_within}
use Rattle.regress_unicode.specs.Shifts.{maps_to}
use Rattle.regress_unicode.proofs.ShiftLemmas.{between}
use Rattle.regress_unicode.proofs.closure.push_overlap.Given as goal

abbrev pub invariant-loop-c : goal.invariant-loop-c
invariant-loop-c l =
    (x : ℕ) → (is_within l.fn.interval x || is_member l.found.items x) ≡
    ((is_within l.fn.interval x || is_member l.fn.found.items x) || maps_to l.shift (between l.first l.c) x)
