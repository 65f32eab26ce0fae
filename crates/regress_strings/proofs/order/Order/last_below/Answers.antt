-- The indices that ascend are parted at `before`.
use Rattle.std.proofs.Common.{◌≡◌, ◌+◌, ◌-◌, ◌≤◌, true, false, ltb, get_or, length, subst, sym, arith, rules}
use Rattle.std.specs.List.{slice_range}
use Rattle.std.specs.List.Sorted.{IsPartitionedBy, IsPartitionPoint}
use Rattle.std.proofs.lemmas.List.Sorted.{IsPartitionPoint-from_clause}
use Rattle.regress_strings.specs.Ordered.{IsLastBelow}
use Rattle.regress_strings.proofs.OrderLemmas.{parted-at, last-none, last-some}
use Rattle.regress_strings.proofs.order.Order.last_below.Goals as goal

pub returns-then-below-eq0 : goal.returns-then-below-eq0
returns-then-below-eq0 c =
    let first = c.args.first in
    let count = c.args.count in
    let is = c.deref.ensures.value in
    let parted = subst (λ xs. IsPartitionedBy (λ index. ltb index c.args.before) (slice_range xs first count)) (sym is)
    (parted-at c.args.self.now.indices.items first count c.args.before c.requires.in_range c.requires.ascend) in
    let point = IsPartitionPoint-from_clause (λ index. ltb index c.args.before) (slice_range c.deref.result.now first count) c.partition_point-below.result
    c.partition_point-below.ensures.partitioned parted (λ a r q k. search rules) in
    last-none c.args.self.now first count c.args.before c.partition_point-below.result c.requires.in_range
    (subst (λ xs. IsPartitionPoint (λ index. ltb index c.args.before ≡ true) (λ index. ltb index c.args.before ≡ false) (slice_range xs first count) c.partition_point-below.result) is point)
    c.if-below-eq0.true

pub returns : goal.returns
returns c =
    let first = c.args.first in
    let count = c.args.count in
    let is = c.deref.ensures.value in
    let parted = subst (λ xs. IsPartitionedBy (λ index. ltb index c.args.before) (slice_range xs first count)) (sym is)
    (parted-at c.args.self.now.indices.items first count c.args.before c.requires.in_range c.requires.ascend) in
    let point = IsPartitionPoint-from_clause (λ index. ltb index c.args.before) (slice_range c.deref.result.now first count) c.partition_point-below.result
    c.partition_point-below.ensures.partitioned parted (λ a r q k. search rules) in
    subst (λ xs. IsLastBelow c.args.self.now first count c.args.before (get_or (slice_range xs first count) (c.partition_point-below.result - 1) 0 + 1)) (sym is)
    (last-some c.args.self.now first count c.args.before c.partition_point-below.result c.requires.in_range c.requires.ascend
    (subst (λ xs. IsPartitionPoint (λ index. ltb index c.args.before ≡ true) (λ index. ltb index c.args.before ≡ false) (slice_range xs first count) c.partition_point-below.result) is point)
    (subst (λ xs. c.partition_point-below.result ≤ length (slice_range xs first count)) is c.partition_point-below.ensures.bound) (omega arith))
