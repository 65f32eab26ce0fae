use Rattle.std.proofs.Common.{rules}
use Rattle.std.proofs.lemmas.List.Sorted.{IsPartitionPoint-from_clause}
use Rattle.std.specs.Ordering.{is_lt}
use Rattle.regress_syntax.specs.Numbering.{names_of, name_order}
use Rattle.regress_syntax.proofs.NumberingLemmas.{parted}
use Rattle.regress_syntax.proofs.groups.named.first_of.Goals as goal

pub returns-clause-position : goal.returns-clause-position
returns-clause-position c =
    let order = name_order (names_of c.args.names.now) c.args.name.now in
    IsPartitionPoint-from_clause (λ k. is_lt (order k)) _ _ c.partition_point.ensures.partitioned
    (parted order c.args.sorted.now (c.requires.order c.args.name.now)) (λ a r q k. search rules)
