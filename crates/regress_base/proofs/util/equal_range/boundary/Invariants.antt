-- The results before `low` are below `least`, and those from `high` on are not.
use Rattle.std.proofs.Common.{◌-◌, ◌<◌, ◌≤◌, length}
use denote.Param.Always.{always_mut}
use Rattle.std.specs.List.{AllWithin}
use Rattle.std.specs.List.Sorted.{IsNonDecreasingBy}
use Rattle.std.specs.Fn.{ComputesKey}
use Rattle.std.specs.Ordering.{ordering_index}
use Rattle.std.specs.declared.cmp.Ordering.{Ordering}
use Rattle.regress_base.proofs.RangesLemmas.{Narrowed}
use Rattle.regress_base.proofs.util.equal_range.boundary.Given as goal

abbrev pub invariant-loop-low : goal.invariant-loop-low
invariant-loop-low g l = record {
  callable : always_mut g.F.FnMut l.f;
  start : l.fn.low ≤ l.low;
  in_order : l.low ≤ l.high;
  in_bounds : l.high ≤ length l.s;
  computes : (ord : g.row.T.Denot → Ordering) → ComputesKey g.F.FnMut ord l.initial.f → ComputesKey g.F.FnMut ord l.f;
  narrowed : (ord : g.row.T.Denot → Ordering) → ComputesKey g.F.FnMut ord l.initial.f
      → IsNonDecreasingBy (λ x. ordering_index (ord x)) l.s
      → AllWithin (λ x. ordering_index (ord x) < ordering_index l.least) l.s 0 l.fn.low
      → Narrowed ord l.s (ordering_index l.least) l.low l.high;
}

abbrev pub decreases-loop-low : goal.decreases-loop-low
decreases-loop-low g l = l.high - l.low
