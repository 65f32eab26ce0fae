-- A loop by its plan, and a lookaround of `Empty`.
use Rattle.std.proofs.Common.{◌≡◌, true, refl, sym, ap, subst, ◌∙◌}
use Rattle.regress_tree.specs.Shapes.{is_emptied_away, is_unrolled_away, may_unroll}
use Rattle.regress_tree.specs.Tree.{Tree, tree, wrapped, loop, lookaround}
use Rattle.regress_tree.specs.Walk.{direction_of}
use Rattle.regress_tree.proofs.lemmas.Nesting.{out-Loop, out-LookaroundAssertion}
use Rattle.regress_tree.proofs.lemmas.Nodes.{tree-Loop, tree-LookaroundAssertion, tree-Empty}
use Rattle.regress_rewrite.specs.Law.{IsPart}
use Rattle.regress_normalize.specs.Normalized.{IsWrapperOf}
use Rattle.regress_normalize.proofs.WrapperLemmas.{emptied_finished, wrapper_holds, facts_decide_unrolling, unrolled_not_clean, finished_narrower}
use Rattle.regress_normalize.proofs.wrapper.finish_wrapper.Goals as goal

pub finish_unrolled-requires-clause-shape : goal.finish_unrolled-requires-clause-shape
finish_unrolled-requires-clause-shape c =
    let at = c.in-Loop in
    let q = at.quant in
    let start = at.enclosed_groups.start in
    let end = at.enclosed_groups.end in
    let body = tree at.loopee.value in
    let loop_is = tree-Loop at.loopee at.quant at.enclosed_groups in
    let facts = c.args.body.now in
    let reported = subst (λ (t : Tree). IsWrapperOf facts t) (ap tree at.is ∙ loop_is) c.requires.body in
    let asked : c.may_unroll.result ≡ may_unroll q start end body =
    (rw (at.quant-is, at.enclosed_groups-is) at c.may_unroll.ensures)
    ∙ facts_decide_unrolling q start end body facts (wrapper_holds facts (loop q start end) body reported).has in
    rw (at.is, out-Loop) (ap is_unrolled_away loop_is ∙ sym asked ∙ c.if-may_unroll.true)

pub finish_loop-requires-clause-inner : goal.finish_loop-requires-clause-inner
finish_loop-requires-clause-inner c =
    let at = c.in-Loop in
    let q = at.quant in
    let start = at.enclosed_groups.start in
    let end = at.enclosed_groups.end in
    let body = tree at.loopee.value in
    let loop_is = tree-Loop at.loopee at.quant at.enclosed_groups in
    let facts = c.args.body.now in
    let reported = subst (λ (t : Tree). IsWrapperOf facts t) (ap tree at.is ∙ loop_is) c.requires.body in
    let holds = wrapper_holds facts (loop q start end) body reported in
    let asked : c.may_unroll.result ≡ may_unroll q start end body =
    (rw (at.quant-is, at.enclosed_groups-is) at c.may_unroll.ensures) ∙ facts_decide_unrolling q start end body facts holds.has in
    rw (at.is, out-Loop) (record {
      quantifier = q;
      start = start;
      end = end;
      body = body;
      is = loop_is;
      stays = sym asked ∙ c.if-may_unroll.false;
      normal = holds.normal;
      has = holds.has;
    })

pub finish_unrolled-requires-clause-part : goal.finish_unrolled-requires-clause-part
finish_unrolled-requires-clause-part c = subst (λ (t : Tree). IsPart t) (rw (c.in-Loop.is, out-Loop) refl) c.requires.part

pub finish_unrolled-requires-clause-body : goal.finish_unrolled-requires-clause-body
finish_unrolled-requires-clause-body c = subst (λ (t : Tree). IsWrapperOf c.args.body.now t) (rw (c.in-Loop.is, out-Loop) refl) c.requires.body

pub finish_loop-requires-clause-part : goal.finish_loop-requires-clause-part
finish_loop-requires-clause-part c = subst (λ (t : Tree). IsPart t) (rw (c.in-Loop.is, out-Loop) refl) c.requires.part

pub returns-then-may_unroll : goal.returns-then-may_unroll
returns-then-may_unroll c =
    let at = c.in-Loop in
    let q = at.quant in
    let start = at.enclosed_groups.start in
    let end = at.enclosed_groups.end in
    let body = tree at.loopee.value in
    let loop_is = tree-Loop at.loopee at.quant at.enclosed_groups in
    let facts = c.args.body.now in
    let reported = subst (λ (t : Tree). IsWrapperOf facts t) (ap tree at.is ∙ loop_is) c.requires.body in
    let asked : c.may_unroll.result ≡ may_unroll q start end body =
    (rw (at.quant-is, at.enclosed_groups-is) at c.may_unroll.ensures)
    ∙ facts_decide_unrolling q start end body facts (wrapper_holds facts (loop q start end) body reported).has in
    let finished = rw (at.is, out-Loop) at c.finish_unrolled.ensures in
    rw at.is (finished_narrower _ _ _ _ _ _
    (unrolled_not_clean facts _ q start end body loop_is (sym asked ∙ c.if-may_unroll.true))
    finished)

pub returns-else-may_unroll : goal.returns-else-may_unroll
returns-else-may_unroll c =
    let at = c.in-Loop in
    rw at.is (rw (at.is, out-Loop) at (c.finish_loop.ensures (direction_of c.args.walk.now)))

pub returns-then-always_holds : goal.returns-then-always_holds
returns-then-always_holds c =
    let at = c.in-LookaroundAssertion in
    let out = out-LookaroundAssertion at.negate at.backwards at.start_group at.end_group at.contents in
    let is = ap tree at.is ∙ tree-LookaroundAssertion at.negate at.backwards at.start_group at.end_group at.contents in
    let w = lookaround at.negate at.backwards at.start_group at.end_group in
    let body = tree at.contents.value in
    let part = subst (λ (u : Tree). IsPart u) is c.requires.part in
    let emptied : is_emptied_away (wrapped w body) ≡ true = sym (rw (c.deref.ensures, at.is, out) at c.always_holds.ensures) ∙ c.if-always_holds.true in
    rw (is, tree-Empty)
    (emptied_finished _ (direction_of c.args.walk.now) w body (λ clean. clean.0) emptied part
    c.leaf_facts.result (rw tree-Empty at c.leaf_facts.ensures.has))
