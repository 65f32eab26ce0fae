-- The intervals before the index end below `low`.
use Rattle.std.proofs.Common.{◌-◌, ◌<◌, ◌≤◌, length}
use Rattle.std.specs.List.{AllWithin}
use Rattle.regress_unicode.proofs.closure.skip_below.Given as goal

abbrev pub invariant-loop-position : goal.invariant-loop-position
invariant-loop-position l = record {
  bound : l.position ≤ length l.intervals;
  below : AllWithin (λ iv. iv.last < l.low) l.intervals 0 l.position;
}

abbrev pub decreases-loop-position : goal.decreases-loop-position
decreases-loop-position l = length l.intervals - l.position
