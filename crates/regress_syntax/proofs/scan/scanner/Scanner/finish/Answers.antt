use Rattle.std.proofs.Common.{◌≡◌, ◌<◌, ◌-◌, ◌^◌, Some, None, map, length, refl, sym, ap, ◌∙◌, arith, subst}
use Rattle.std.proofs.lemmas.Bool.{true≢false}
use Rattle.regress_syntax.specs.Numbering.{names_of, AreSortedByName}
use Rattle.regress_syntax.specs.Scanning.{first_conflict}
use Rattle.regress_syntax.specs.declared.scan.scanner.NamedGroup.{NamedGroup}
use Rattle.regress_syntax.proofs.ConflictLemmas.{conflict_in_any_order, conflict_found}
use Rattle.regress_syntax.proofs.NumberingLemmas.{sorted_by_name}
use Rattle.regress_syntax.proofs.PlaceLemmas.{none_found, first_found}
use Rattle.regress_syntax.proofs.ScannerLemmas.{apart_after, deep_after, rejected_after, open_groups_after, many_after}
use Rattle.regress_syntax.proofs.scan.scanner.Scanner.finish.Goals as goal

pub returns-in-Some-clause-rejected : goal.returns-in-Some-clause-rejected
returns-in-Some-clause-rejected c = λ all after.
    let sorted = c.sort_by_name.new.groups.items in
    let found : first_conflict sorted ≡ Some c.in-Some.left =
    sym (c.find_conflict.ensures ∙ ap first_conflict c.deref.ensures.value) ∙ c.in-Some.is in
    rw c.rejected.ensures
    (rejected_after all c.args.self after
    (conflict_in_any_order c.in-Some.left c.args.self.named.items sorted c.in_ok-sort_by_name.ensures.permutation (conflict_found sorted c.in-Some.left found)))

pub returns-in-Some-clause-conflict : goal.returns-in-Some-clause-conflict
returns-in-Some-clause-conflict c = λ all after few.
    let sorted = c.sort_by_name.new.groups.items in
    let found : first_conflict sorted ≡ Some c.in-Some.left =
    sym (c.find_conflict.ensures ∙ ap first_conflict c.deref.ensures.value) ∙ c.in-Some.is in
    rw c.rejected.ensures
    (first_found all c.args.self sorted c.in-Some.left _ _ after few c.requires.order c.in_ok-sort_by_name.ensures.permutation
    c.in_ok-sort_by_name.ensures.sorted c.in_ok-sort_by_name.ensures.stable found refl
    (omega (arith, c.saturating_sub-name.ensures)))

pub returns-then-self-clause-conflict : goal.returns-then-self-clause-conflict
returns-then-self-clause-conflict c = λ all after few. absurd (omega (arith, few, deep_after all c.args.self after (omega (arith, c.if-self.true))))

pub returns-then-len-clause-conflict : goal.returns-then-len-clause-conflict
returns-then-len-clause-conflict c = λ all after few.
    let sorted = c.sort_by_name.new.groups.items in
    let none : first_conflict sorted ≡ None = sym (c.find_conflict.ensures ∙ ap first_conflict c.deref.ensures.value) ∙ c.in_default.is in
    let apart = none_found all c.args.self sorted after few c.requires.order c.in_ok-sort_by_name.ensures.permutation
    c.in_ok-sort_by_name.ensures.sorted c.in_ok-sort_by_name.ensures.stable none in
    rw c.rejected-then-len.ensures (λ some. absurd (true≢false (sym apart ∙ some)))

pub returns-then-len-clause-rejected : goal.returns-then-len-clause-rejected
returns-then-len-clause-rejected c = λ all after.
    let many : 2 ^ 32 - 1 < length c.args.self.names.items = omega (arith, c.if-len.true) in
    rw c.rejected-then-len.ensures (many_after all c.args.self after many)

pub returns-clause-apart : goal.returns-clause-apart
returns-clause-apart c = λ all after.
    let sorted = c.sort_by_name.new.groups.items in
    let none : first_conflict sorted ≡ None = sym (c.find_conflict.ensures ∙ ap first_conflict c.deref.ensures.value) ∙ c.in_default.is in
    let few = open_groups_after all c.args.self after (omega (arith, c.if-self.false)) in
    apart_after all c.args.self after few
    ∙ none_found all c.args.self sorted after few c.requires.order
    c.in_ok-sort_by_name.ensures.permutation c.in_ok-sort_by_name.ensures.sorted c.in_ok-sort_by_name.ensures.stable none

pub new-requires : goal.new-requires
new-requires c =
    let few : length c.args.self.names.items < 2 ^ 32 = omega (arith, c.if-len.false) in
    subst (AreSortedByName (names_of c.args.self.names.items))
    (sym (c.in_ok-numbers.ensures ∙ ap (map (λ (g : NamedGroup). g.number)) c.deref-2.ensures.value))
    (sorted_by_name (names_of c.args.self.names.items) c.args.self.named.items c.sort_by_name.new.groups.items
    c.in_ok-sort_by_name.ensures.permutation (c.requires.numbered few) c.in_ok-sort_by_name.ensures.sorted c.in_ok-sort_by_name.ensures.stable)
