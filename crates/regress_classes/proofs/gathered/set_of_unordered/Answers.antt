-- The order of the intervals does not matter, and merged neighbours are canonical.
use Rattle.std.proofs.Common.{rules, subst, sym}
use Rattle.std.proofs.lemmas.List.Sorted.{IsNonDecreasingBy-from_sort_by_key}
use Rattle.regress_classes.specs.ClassViews.{HasMembers}
use Rattle.regress_classes.proofs.IntervalCollectorLemmas.{in_order}
use Rattle.regress_classes.proofs.gathered.set_of_unordered.Goals as goal

pub join_neighbours-requires : goal.join_neighbours-requires
join_neighbours-requires c =
    IsNonDecreasingBy-from_sort_by_key (λ interval. interval.first) _ c.sort_unstable_by_key.ensures.sorted (λ a r f' called. search rules)

pub returns : goal.returns
returns c =
    subst (HasMembers c.args.list.items) (sym c.from_sorted_disjoint_intervals-2.ensures)
    (in_order c.args.list.items c.sort_unstable_by_key.new.self.items c.join_neighbours.new.list.items
    c.sort_unstable_by_key.ensures.permutation c.join_neighbours.ensures.members c.join_neighbours.ensures.canonical)
