-- Each entry adds what it maps. The intervals before the remaining ones have no code point that it maps.
use Rattle.std.proofs.Common.{◌≡◌, ℕ, ◌+◌, ◌<◌, ◌≤◌, ◌||◌, ◌∙◌, IsTrue, length, le_refl, refl, sym, ap, subst, arith}
use Rattle.std.proofs.lemmas.Bool.{eqb-true}
use Rattle.regress_base.specs.Intervals.{Bounds, is_member}
use Rattle.regress_unicode.specs.declared.shift.Shift.{Shift}
use Rattle.regress_unicode.specs.FoldEntries.{FoldEntry}
use Rattle.regress_unicode.specs.ValidEntries.{is_target_in_range}
use Rattle.regress_unicode.specs.Shifts.{forward}
use Rattle.regress_unicode.proofs.ListLemmas.{target_at}
use Rattle.regress_unicode.proofs.ShiftLemmas.{mappings_more}
use Rattle.regress_unicode.proofs.ClosingLemmas.{found_none, mapping_no_more, mappings_done, left, below_first_none, no_members, positive}
use Rattle.regress_unicode.proofs.closure.targets.Goals as goal
use Rattle.regress_unicode.proofs.closure.targets.Goals.{then-first-last+in_ok-push_targets, else-first-last}

pub loop-mapping-init : goal.loop-mapping-init
loop-mapping-init c = record {
  members = λ x. ap (λ b. is_member c.args.intervals.now x || b)
      (found_none forward (is_member c.args.intervals.now) x c.new-found.result.items c.new-found.ensures.items);
  canonical = c.requires.canonical;
  within = λ x member. member;
  same = λ k d le lt x from. refl;
}

pub returns-then-is_empty : goal.returns-then-is_empty
returns-then-is_empty c x =
    let rest = left c.args.mappings.now c.loop-mapping.mapping-index c.first.result c.mapping-item.result c.args.intervals.now c.loop-mapping.rest.now
    c.skip_below-rest.result.now c.requires.in_order c.mapping-item.is c.first.ensures.value c.loop-mapping.invariant.same
    c.skip_below-rest.ensures.members in
    let none = eqb-true (length c.skip_below-rest.result.now) 0 (sym c.if-is_empty.ensures) in
    c.loop-mapping.invariant.members x
    ∙ ap (λ b. is_member c.args.intervals.now x || b)
    (mappings_done forward (is_member c.args.intervals.now) c.args.mappings.now c.loop-mapping.mapping-index x c.mapping-item.result
    (λ k le lt y from. sym (rest k c.mapping-item.result le lt y from) ∙ no_members c.skip_below-rest.result.now y none))

pub forward-requires : goal.forward-requires
forward-requires c =
    subst (λ (r : FoldEntry). IsTrue (is_target_in_range r)) (sym c.mapping-item.is)
    (target_at c.args.mappings.now c.loop-mapping.mapping-index c.mapping-item.result c.requires.in_range c.loop-mapping-test.true)

pub loop-mapping-preserved : goal.loop-mapping-preserved
loop-mapping-preserved c =
    let mappings = c.args.mappings.now in
    let i = c.loop-mapping.mapping-index in
    let mapping : FoldEntry = c.mapping-item.result in
    let rest = left mappings i c.first.result mapping c.args.intervals.now c.loop-mapping.rest.now
    c.skip_below-rest.result.now c.requires.in_order c.mapping-item.is c.first.ensures.value c.loop-mapping.invariant.same
    c.skip_below-rest.ensures.members in
    let here : (y : ℕ) → mapping.start ≤ y → is_member c.skip_below-rest.result.now y ≡ is_member c.args.intervals.now y = λ y from.
    rest i mapping (le_refl i) c.loop-mapping-test.true y (subst (λ (r : FoldEntry). r.start ≤ y) c.mapping-item.is from) in
    let within : (y : ℕ) → IsTrue (is_member c.skip_below-rest.result.now y) → IsTrue (is_member c.args.intervals.now y) = λ y member.
    c.loop-mapping.invariant.within y (c.skip_below-rest.ensures.within y member) in
    let same = λ (k : ℕ) (d : FoldEntry) (le : i + 1 ≤ k). rest k d (omega arith) in
    elim c.if-first-last.branch [
      | then-first-last+in_ok-push_targets w ↦ rw w.found-is (record {
        members = λ x. mappings_more forward (is_member c.args.intervals.now) mappings i x mapping w.forward.result
            (is_member c.args.intervals.now x) _ _ c.loop-mapping-test.true c.mapping-item.is w.forward.ensures.value
            (c.loop-mapping.invariant.members x) (w.in_ok-push_targets.ensures x);
        canonical = c.skip_below-rest.ensures.canonical;
        within = within;
        same = same;
      })
      | else-first-last w ↦ rw w.found-is (record {
        members = λ x. mapping_no_more forward (is_member c.args.intervals.now) mappings i x mapping (is_member c.args.intervals.now x) _
            c.loop-mapping-test.true c.mapping-item.is
            (λ y from to. sym (here y from)
            ∙ below_first_none c.skip_below-rest.result.now y c.index-rest-0.result c.skip_below-rest.ensures.canonical
            (positive _ (sym c.if-is_empty.ensures))
            (subst (λ (iv : Bounds). y < iv.first) c.index-rest-0.is
            (omega (arith, to, w.if-first-last.false, c.last.ensures.value, c.first-in-loop-mapping.ensures.value))))
            (c.loop-mapping.invariant.members x);
        canonical = c.skip_below-rest.ensures.canonical;
        within = within;
        same = same;
      })
    ]

pub push_targets-requires-clause-rest_within : goal.push_targets-requires-clause-rest_within
push_targets-requires-clause-rest_within c y member = c.loop-mapping.invariant.within y (c.skip_below-rest.ensures.within y member)

pub push_targets-requires-clause-rest_members : goal.push_targets-requires-clause-rest_members
push_targets-requires-clause-rest_members c y from =
    let i = c.loop-mapping.mapping-index in
    let mapping : FoldEntry = c.mapping-item.result in
    let rest = left c.args.mappings.now i c.first.result mapping c.args.intervals.now c.loop-mapping.rest.now
    c.skip_below-rest.result.now c.requires.in_order c.mapping-item.is c.first.ensures.value c.loop-mapping.invariant.same
    c.skip_below-rest.ensures.members in
    let above : mapping.start ≤ y = subst (λ (s : Shift). s.first ≤ y) c.forward.ensures.value from in
    rest i mapping (le_refl i) c.loop-mapping-test.true y (subst (λ (r : FoldEntry). r.start ≤ y) c.mapping-item.is above)
