-- The next pair of ends is an interval, and after the last pair there is none.
use Rattle.std.proofs.Common.{◌+◌, ◌∙◌, ap}
use Rattle.regress_properties.proofs.ListedLemmas.{interval_there, intervals_left, pair_taken, all_taken}
use Rattle.regress_properties.proofs.ends.intervals.Goals as goal

pub new-requires-clause-ordered : goal.new-requires-clause-ordered
new-requires-clause-ordered c = (interval_there c.args.ends.now c.loop-index.index c.loop-index-test.true c.loop-index.invariant.1).ordered

pub new-requires-clause-in_range : goal.new-requires-clause-in_range
new-requires-clause-in_range c = (interval_there c.args.ends.now c.loop-index.index c.loop-index-test.true c.loop-index.invariant.1).in_range

pub loop-index-preserved : goal.loop-index-preserved
loop-index-preserved c =
    let taken = pair_taken c.args.ends.now c.loop-index.index c.loop-index.intervals.items c.loop-index-test.true c.loop-index.invariant.0 in
    let old = c.loop-index.invariant.2 in
    let same = c.loop-index.invariant.3 in (
      rw (c.push_reserved.ensures.items, c.new.ensures) taken,
      intervals_left c.args.ends.now c.loop-index.index c.loop-index-test.true c.loop-index.invariant.1,
      c.push_reserved.ensures.len ∙ ap (λ n. n + 1) old,
      c.push_reserved.ensures.capacity ∙ same,
    )

pub returns : goal.returns
returns c = all_taken c.args.ends.now c.loop-index.index c.loop-index.intervals.items (search) c.loop-index.invariant.0
