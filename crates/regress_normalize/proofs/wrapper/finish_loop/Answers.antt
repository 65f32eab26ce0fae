-- The loop in its form keeps the meaning of the old one.
use Rattle.std.proofs.Common.{◌≡◌, subst, ap, ◌∙◌}
use Rattle.regress_tree.specs.Shapes.{is_unrolled_away}
use Rattle.regress_tree.specs.Tree.{Tree, tree}
use Rattle.regress_tree.proofs.lemmas.Nesting.{out-Loop}
use Rattle.regress_tree.proofs.lemmas.Nodes.{tree-Loop}
use Rattle.regress_rewrite.specs.Law.{IsPart}
use Rattle.regress_normalize.specs.Wrapped.{IsLoopOf, IsPlanned, in_form, loop_in_form}
use Rattle.regress_normalize.proofs.WrapperLemmas.{loop_holds, form_finished}
use Rattle.regress_normalize.proofs.wrapper.finish_loop.Goals as goal

pub plan_loop-requires : goal.plan_loop-requires
plan_loop-requires c =
    let at = c.in-Loop in
    let q = at.quant in
    let start = at.enclosed_groups.start in
    let end = at.enclosed_groups.end in
    let is = ap tree at.is ∙ tree-Loop at.loopee at.quant at.enclosed_groups in
    let reported = subst (λ (t : Tree). IsLoopOf c.args.body.now t) is c.requires.inner in
    rw (c.deref.ensures, at.loopee-is) (loop_holds c.args.body.now q start end (tree at.loopee.value) reported).has

pub returns : goal.returns
returns c d =
    let at = c.in-Loop in
    let q = at.quant in
    let start = at.enclosed_groups.start in
    let end = at.enclosed_groups.end in
    let body = tree at.loopee.value in
    let is = ap tree at.is ∙ tree-Loop at.loopee at.quant at.enclosed_groups in
    let facts = c.args.body.now in
    let reported = subst (λ (t : Tree). IsLoopOf facts t) is c.requires.inner in
    let part = subst (λ (t : Tree). IsPart t) is c.requires.part in
    let holds = loop_holds facts q start end body reported in
    let plan = c.in_ok-plan.plan in
    let planned : IsPlanned facts q start end body plan = rw (c.deref.ensures, at.is, out-Loop) at c.in_ok-plan.ensures in
    let made : tree c.take_form.new.node ≡ in_form plan.form q start end body =
    (rw (at.is, out-Loop) at c.take_form.ensures) ∙ ap (loop_in_form plan.form) (tree-Loop at.loopee at.quant at.enclosed_groups) in
    rw (is, made)
    (form_finished facts q start end body holds.normal holds.has d part plan.facts plan.form planned.takes planned.has planned.many
    (ap is_unrolled_away reported.is ∙ reported.stays))
