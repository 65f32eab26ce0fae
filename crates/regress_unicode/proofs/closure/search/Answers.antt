-- The intervals that are left out have no code point from `low` on.
use Rattle.std.proofs.Common.{ltb, arith, rules}
use borrow.Author.Tests.{ltb-true}
use Rattle.std.proofs.lemmas.List.Sorted.{IsPartitionPoint-from_clause, IsPartitionedBy-ltb}
use Rattle.regress_unicode.proofs.ClosingLemmas.{slice_canonical, slice_within, slice_members, lasts_rise}
use Rattle.regress_unicode.proofs.closure.search.Goals as goal

pub returns-clause-canonical : goal.returns-clause-canonical
returns-clause-canonical c = slice_canonical c.args.intervals.now c.partition_point.result c.requires

pub returns-clause-within : goal.returns-clause-within
returns-clause-within c x = slice_within c.args.intervals.now c.partition_point.result x

pub returns-clause-members : goal.returns-clause-members
returns-clause-members c x le =
    let parted = IsPartitionedBy-ltb (λ iv. iv.last) _ c.args.low (lasts_rise 0 c.args.intervals.now c.requires) in
    let point = IsPartitionPoint-from_clause (λ iv. ltb iv.last c.args.low) _ _ c.partition_point.ensures.partitioned parted
    (λ a r q k. search rules) in
    slice_members c.args.intervals.now c.partition_point.result c.args.low x (λ j d lt. ltb-true _ _ (point.0 j d (omega arith) lt)) le
