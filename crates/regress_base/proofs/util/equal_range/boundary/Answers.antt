-- The result at the middle determines which half is dropped.
use Rattle.std.proofs.Common.{◌+◌, ◌-◌, ◌/◌, arith, of_calls}
use Rattle.std.specs.Fn.{ComputesKey}
use Rattle.std.specs.Ordering.{ordering_index}
use Rattle.std.specs.declared.cmp.Ordering.{Ordering}
use Rattle.regress_base.proofs.RangesLemmas.{narrowed-lower, narrowed-upper, returned, index-lt, index-ge}
use Rattle.regress_base.proofs.util.equal_range.boundary.Goals as goal

pub loop-low-preserved-then-lt : goal.loop-low-preserved-then-lt
loop-low-preserved-then-lt g c =
    let mid = c.loop-low.low + (c.loop-low.high - c.loop-low.low) / 2 in
    let n = ordering_index c.args.least in
    let less = index-lt (ordering_index c.f.result) n c.lt.result c.lt.ensures c.if-lt.true in
    let reported = λ (ord : g.row.T.Denot → Ordering) (h : ComputesKey g.F.FnMut ord c.args.f.now).
    returned g.F.FnMut ord c.args.s.now mid _ _ _ c.f.result (omega arith) c.index-s-mid.is c.f.ensures
    (c.loop-low.invariant.computes ord h) in
    record {
      callable = search of_calls;
      start = omega arith;
      in_order = omega arith;
      in_bounds = omega arith;
      computes = λ ord h. (reported ord h).1;
      narrowed = λ ord h rising before. narrowed-lower ord c.args.s.now n c.loop-low.low c.loop-low.high mid rising (omega arith)
          (λ d. let here = (reported ord h).0 d in omega (arith, here, less)) (c.loop-low.invariant.narrowed ord h rising before);
    }

pub loop-low-preserved : goal.loop-low-preserved
loop-low-preserved g c =
    let mid = c.loop-low.low + (c.loop-low.high - c.loop-low.low) / 2 in
    let n = ordering_index c.args.least in
    let least = index-ge (ordering_index c.f.result) n c.lt.result c.lt.ensures c.if-lt.false in
    let reported = λ (ord : g.row.T.Denot → Ordering) (h : ComputesKey g.F.FnMut ord c.args.f.now).
    returned g.F.FnMut ord c.args.s.now mid _ _ _ c.f.result (omega arith) c.index-s-mid.is c.f.ensures
    (c.loop-low.invariant.computes ord h) in
    record {
      callable = search of_calls;
      start = omega arith;
      in_order = omega arith;
      in_bounds = omega arith;
      computes = λ ord h. (reported ord h).1;
      narrowed = λ ord h rising before. narrowed-upper ord c.args.s.now n c.loop-low.low c.loop-low.high mid rising
          (λ d. let here = (reported ord h).0 d in omega (arith, here, least)) (c.loop-low.invariant.narrowed ord h rising before);
    }
