-- Sorting keeps the number of occurrences of each number.
use Rattle.std.proofs.Common.{◌≡◌, ℕ, ◌+◌, ◌<◌, List, length, get_or, refl, inr, subst}
use Rattle.regress_unicode.specs.Moves.{HasNoFour}
use Rattle.regress_unicode.proofs.CaseMapLemmas.{few_after_sort, many_after_sort}
use Rattle.regress_unicode.proofs.checks.check_classes.Goals as goal

pub returns-then-occurs_four_times-clause-err : goal.returns-then-occurs_four_times-clause-err
returns-then-occurs_four_times-clause-err c =
    let some = c.occurs_four_times.ensures.some c.if-occurs_four_times.true in
    let found = subst (λ (xs : List ℕ). (some.0 + 3 < length xs) × (get_or xs some.0 0 ≡ get_or xs (some.0 + 3) 0)) c.deref.ensures.value
    (some.1, some.2) in
    let many = many_after_sort c.args.targets.items c.sort.new.self.items some.0 c.in_ok-sort.ensures.stable c.in_ok-sort.ensures.sorted
    found.0 found.1 in
    inr (refl, many.0, many.1)

pub returns-clause-ok : goal.returns-clause-ok
returns-clause-ok c =
    few_after_sort c.args.targets.items c.sort.new.self.items c.in_ok-sort.ensures.stable c.in_ok-sort.ensures.sorted
    (subst HasNoFour c.deref.ensures.value (c.occurs_four_times.ensures.none c.if-occurs_four_times.false))
