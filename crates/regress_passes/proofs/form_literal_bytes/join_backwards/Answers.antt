-- Each pair is joined, or is no pair of neighbours with bytes.
use Rattle.std.proofs.Common.{◌-◌, List, map, arith, sym, subst, ◌∙◌}
use Rattle.std.proofs.lemmas.List.{length-map}
use Rattle.regress_tree.specs.Reading.{backwards}
use Rattle.regress_tree.specs.Tree.{Tree, list, tree}
use Rattle.regress_passes.specs.Joined.{JoinsSome}
use Rattle.regress_passes.proofs.PartLemmas.{HasGap, HasGap-none}
use Rattle.regress_passes.proofs.NeighbourLemmas.{backward_start, backward_skip, backward_join, backward_gap, have_bytes}
use Rattle.regress_passes.proofs.form_literal_bytes.join_backwards.Goals as goal

pub loop-earlier-init : goal.loop-earlier-init
loop-earlier-init c =
    let old = map tree c.args.parts.now in
    let end = c.saturating_sub-last.result in
    record {
      ordered = omega arith;
      within = omega (arith, c.saturating_sub-last.ensures);
      gap = HasGap-none end old;
      so_far = backward_start old end (omega (arith, c.saturating_sub-last.ensures, length-map c.args.parts.now tree));
    }

pub join_before-requires : goal.join_before-requires
join_before-requires c =
    let l = c.loop-earlier in
    have_bytes l.parts (l.earlier - 1) l.last (omega (arith, c.loop-earlier-test.true, l.invariant.ordered))
    (omega (arith, c.loop-earlier-test.true, l.invariant.ordered, l.invariant.within))
    (sym c.have_bytes.ensures ∙ c.if-have_bytes.true)

pub loop-earlier-preserved-then-have_bytes : goal.loop-earlier-preserved-then-have_bytes
loop-earlier-preserved-then-have_bytes c =
    let l = c.loop-earlier in
    let old = map tree c.args.parts.now in
    let now = map tree l.parts in
    let have = have_bytes l.parts (l.earlier - 1) l.last (omega (arith, c.loop-earlier-test.true, l.invariant.ordered))
    (omega (arith, c.loop-earlier-test.true, l.invariant.ordered, l.invariant.within))
    (sym c.have_bytes.ensures ∙ c.if-have_bytes.true) in
    let is = sym c.in_default.ensures.ok in
    record {
      ordered = omega (arith, l.invariant.ordered);
      within = omega (arith, l.invariant.within);
      gap = subst (λ (ts : List Tree). HasGap (l.earlier - 1) l.last ts) is
          (backward_gap l.earlier l.last old now (omega (arith, c.loop-earlier-test.true)) have l.invariant.gap);
      so_far = subst (λ (ts : List Tree). JoinsSome backwards (list old) (list ts)) is
          (backward_join l.earlier l.last old now (omega (arith, c.loop-earlier-test.true)) l.joined have l.invariant.gap l.invariant.so_far);
    }

pub loop-earlier-preserved : goal.loop-earlier-preserved
loop-earlier-preserved c =
    let l = c.loop-earlier in
    let old = map tree c.args.parts.now in
    let now = map tree l.parts in
    record {
      ordered = omega arith;
      within = omega (arith, l.invariant.ordered, l.invariant.within);
      gap = HasGap-none (l.earlier - 1) now;
      so_far = backward_skip l.earlier l.last old now (omega (arith, c.loop-earlier-test.true)) l.joined l.invariant.ordered
          (omega (arith, c.loop-earlier-test.true, l.invariant.ordered, l.invariant.within, length-map l.parts tree))
          (sym c.have_bytes.ensures ∙ c.if-have_bytes.false) l.invariant.so_far;
    }
