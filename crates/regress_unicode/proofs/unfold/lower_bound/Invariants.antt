-- The numbers before the index are smaller.
use Rattle.std.proofs.Common.{◌-◌, ◌<◌, ◌≤◌, length}
use Rattle.std.specs.List.{AllWithin}
use Rattle.regress_unicode.proofs.unfold.lower_bound.Given as goal

abbrev pub invariant-loop-position : goal.invariant-loop-position
invariant-loop-position l = record {
  bound : l.position ≤ length l.list;
  below : AllWithin (λ x. x < l.c) l.list 0 l.position;
}

abbrev pub decreases-loop-position : goal.decreases-loop-position
decreases-loop-position l = length l.list - l.position
