use Rattle.std.proofs.Common.{rules, subst, map}
use Rattle.std.specs.List.Sorted.{IsPermutation}
use Rattle.std.proofs.lemmas.List.Sorted.{IsPermutation-map, IsNonDecreasingBy-from_sort_by_key}
use Rattle.regress_match.specs.Pattern.{capture_of}
use Rattle.regress_match.proofs.names.groups.Goals as goal

pub returns-clause-all : goal.returns-clause-all
returns-clause-all c =
    subst (λ cs. IsPermutation cs (map capture_of c.sort_by_key.new.self.items)) c.in_ok-groups.ensures
    (IsPermutation-map capture_of _ _ c.sort_by_key.ensures.permutation)

pub returns-clause-sorted : goal.returns-clause-sorted
returns-clause-sorted c =
    IsNonDecreasingBy-from_sort_by_key (λ group. group.id) _ c.in_ok-sort_by_key.ensures.sorted (λ a r f' called. search rules)
