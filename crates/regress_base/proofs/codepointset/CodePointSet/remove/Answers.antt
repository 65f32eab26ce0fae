-- The range of intervals within the span is replaced by its intersection with the gaps.
use Rattle.std.proofs.Common.{◌≡◌, ℕ, ◌-◌, ◌&&◌, ◌∙◌, ◌++◌, not, take, drop, List, ap, ap₂, sym, subst}
use Rattle.std.proofs.lemmas.Iterator.{items_from_drains}
use Rattle.std.proofs.lemmas.Iterator.Adapters.{YieldsList-from_vec}
use Rattle.std.proofs.lemmas.List.{map-id}
use Rattle.regress_base.specs.Intervals.{Bounds, is_member, IsCanonical, IsTouchingRange}
use Rattle.regress_base.proofs.CutLemmas.{IsCut, slice_between, canonical_between, cut, cut_none, cut_empty}
use Rattle.regress_base.proofs.codepointset.CodePointSet.remove.Goals as goal

pub returns-in_default-clause-members : goal.returns-in_default-clause-members
returns-in_default-clause-members c = λ n. cut_empty c.args.self.now c.args.intervals.now n c.in_default.ensures.none

pub returns-then-start-end-clause-members : goal.returns-then-start-end-clause-members
returns-then-start-end-clause-members c = λ n.
    subst (λ l. is_member l n ≡ (is_member l n && not (is_member c.args.intervals.now n))) c.self.view_is
    (cut_none c.self.inside.ivs.items c.args.intervals.now c.in-Some.span _ _ n c.self.invariant c.in-Some.ensures.some
    (subst (λ l. IsTouchingRange l c.in-Some.span c.touching-start.result.start c.touching-start.result.end) c.deref.ensures.value
    c.touching-start.ensures.range) c.if-start-end.true)

pub intersection-requires-clause-left_canonical : goal.intersection-requires-clause-left_canonical
intersection-requires-clause-left_canonical c =
    let can = subst IsCanonical (sym c.deref-2.ensures.value) c.self.invariant in
    subst IsCanonical (sym (slice_between c.deref-2.result.now _ _ c.touching-start.ensures.range.in_order))
    (canonical_between c.deref-2.result.now _ _ c.touching-start.ensures.range.in_order can)

done : (c : goal.After-drop-gaps-2) → IsCut c.self.inside.ivs.items c.args.intervals.now c.splice.new.self.items
done c =
    let old = c.self.inside.ivs.items in
    let start = c.touching-start.result.start in
    let end = c.touching-start.result.end in
    let range = subst (λ l. IsTouchingRange l c.in-Some.span c.touching-start.result.start c.touching-start.result.end) c.deref.ensures.value
    c.touching-start.ensures.range in
    let spliced = c.in_ok-splice.ensures.items in
    let gives = spliced.2 in
    let all : spliced.1 ≡ c.in_ok-kept.kept.items = sym (map-id spliced.1)
    ∙ items_from_drains spliced.1 (spliced.3.1.0, spliced.3.1.1, λ _. (spliced.3.0, spliced.3.1.2))
    (YieldsList-from_vec c.in_ok-kept.kept.items gives.0 (gives.1 ∙ c.in_ok-kept.kept.ok.0)) in
    cut old c.args.intervals.now c.in-Some.span _ _ c.self.invariant c.in-Some.ensures.some range c.in_ok-gaps.gaps.items c.in_ok-kept.kept.items _
    c.in_ok-gaps.ensures.members c.in_ok-kept.ensures.canonical
    (λ n. c.in_ok-kept.ensures.members n ∙ ap₂ (λ x y. is_member x n && is_member y n)
    (ap (λ (l : List Bounds). take (end - start) (drop start l)) c.deref-2.ensures.value ∙ slice_between old start end range.in_order) c.deref-3.ensures.value)
    (spliced.4 ∙ ap (λ (xs : List Bounds). take start old ++ (xs ++ drop end old)) all)

pub invariant_of-self-2 : goal.invariant_of-self-2
invariant_of-self-2 c = (done c).canonical

pub returns-clause-members : goal.returns-clause-members
returns-clause-members c =
    subst (λ l. (n : ℕ) → is_member c.splice.new.self.items n ≡ (is_member l n && not (is_member c.args.intervals.now n))) c.self.view_is
    (done c).members

pub returns-clause-canonical : goal.returns-clause-canonical
returns-clause-canonical c = (done c).canonical
