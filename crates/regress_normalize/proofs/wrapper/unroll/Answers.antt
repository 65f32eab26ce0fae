-- The copies, with what the loop after them becomes, replace the loop.
use Rattle.std.proofs.Common.{◌≡◌, true, false, List, [], ◌∷◌, rules, tests, refl, sym, subst, ap, ap₂, ◌∙◌}
use Rattle.regress_tree.specs.declared.ir.node.Node.{Node}
use Rattle.regress_tree.specs.declared.ir.node.Node.TheVariants.{Cat}
use Rattle.regress_base.specs.declared.types.Quantifier.{Quantifier}
use Rattle.regress_tree.specs.Shapes.{is_unrolled_away, is_zero, may_unroll}
use Rattle.regress_tree.specs.Tree.{Tree, Trees, tree, trees, cat, loop, copies, append_trees, more_trees, no_trees}
use Rattle.regress_tree.proofs.lemmas.Nesting.{out-Loop}
use Rattle.regress_tree.proofs.lemmas.Nodes.{tree-Loop, tree-Cat}
use Rattle.regress_tree.proofs.lemmas.Lists.{trees-append}
use Rattle.regress_rewrite.specs.Law.{IsPart}
use Rattle.regress_rewrite.specs.Unroll.{further_iterations}
use Rattle.regress_rewrite.proofs.lemmas.Unrolling.{MayUnroll-from, body_groupless, is_zero-reported}
use Rattle.regress_normalize.specs.Normalized.{IsWrapperOf}
use Rattle.regress_normalize.specs.PartFacts.{HasListFacts}
use Rattle.regress_normalize.specs.Wrapped.{IsPlanned, in_form, loop_in_form}
use Rattle.regress_normalize.proofs.WrapperLemmas.{wrapper_holds, iterations_finished, unrolled_finished, form_no_cat, not_unrolled}
use Rattle.regress_normalize.proofs.wrapper.unroll.Goals as goal

pub required_copies-requires-clause-groups : goal.required_copies-requires-clause-groups
required_copies-requires-clause-groups c =
    let at = c.in-Loop in
    let q = at.quant in
    let start = at.enclosed_groups.start in
    let end = at.enclosed_groups.end in
    let body = tree at.loopee.value in
    let is = ap tree at.is ∙ tree-Loop at.loopee at.quant at.enclosed_groups in
    let may : may_unroll q start end body ≡ true = ap is_unrolled_away (sym is) ∙ c.requires.shape in
    let part = subst (λ (t : Tree). IsPart t) is c.requires.part in
    rw (c.deref-2.ensures, at.loopee-is) (body_groupless q start end body (MayUnroll-from q start end body may) part)

pub required_copies-requires-clause-strings : goal.required_copies-requires-clause-strings
required_copies-requires-clause-strings c =
    let at = c.in-Loop in
    let q = at.quant in
    let start = at.enclosed_groups.start in
    let end = at.enclosed_groups.end in
    let body = tree at.loopee.value in
    let is = ap tree at.is ∙ tree-Loop at.loopee at.quant at.enclosed_groups in
    let may : may_unroll q start end body ≡ true = ap is_unrolled_away (sym is) ∙ c.requires.shape in
    rw (c.deref-2.ensures, at.loopee-is) (MayUnroll-from q start end body may).no_strings

pub required_copies-requires-clause-nesting : goal.required_copies-requires-clause-nesting
required_copies-requires-clause-nesting c =
    let at = c.in-Loop in
    let q = at.quant in
    let start = at.enclosed_groups.start in
    let end = at.enclosed_groups.end in
    let body = tree at.loopee.value in
    let is = ap tree at.is ∙ tree-Loop at.loopee at.quant at.enclosed_groups in
    let may : may_unroll q start end body ≡ true = ap is_unrolled_away (sym is) ∙ c.requires.shape in
    rw (c.deref-2.ensures, at.loopee-is) (MayUnroll-from q start end body may).nesting

pub returns-in_err-list : goal.returns-in_err-list
returns-in_err-list c d = not_unrolled d _ _ _ c.from_residual.ensures.0 (rw (c.in-Loop.is, out-Loop) refl)

pub returns-in_err-parts : goal.returns-in_err-parts
returns-in_err-parts c d = not_unrolled d _ _ _ c.from_residual-in_err-parts.ensures.0 (rw (c.in-Loop.is, out-Loop) refl)

pub returns-in_err-plan : goal.returns-in_err-plan
returns-in_err-plan c d = not_unrolled d _ _ _ c.from_residual-in_err-plan.ensures.0 (rw (c.in-Loop.is, out-Loop) refl)

pub returns-in_err-add : goal.returns-in_err-add
returns-in_err-add c d = not_unrolled d _ _ _ c.from_residual-in_err-add.ensures.0 (rw (c.in-Loop.is, out-Loop) refl)

pub plan_loop-requires : goal.plan_loop-requires
plan_loop-requires c =
    let at = c.in-Loop in
    let wrapper = loop at.quant at.enclosed_groups.start at.enclosed_groups.end in
    let is = ap tree at.is ∙ tree-Loop at.loopee at.quant at.enclosed_groups in
    let reported = subst (λ (t : Tree). IsWrapperOf c.args.body.now t) is c.requires.body in
    rw (c.deref-3.ensures, at.loopee-is) (wrapper_holds c.args.body.now wrapper (tree at.loopee.value) reported).has

pub returns-then-eq : goal.returns-then-eq
returns-then-eq c d =
    let at = c.in-Loop in
    let q = at.quant in
    let start = at.enclosed_groups.start in
    let end = at.enclosed_groups.end in
    let body = tree at.loopee.value in
    let is = ap tree at.is ∙ tree-Loop at.loopee at.quant at.enclosed_groups in
    let may : may_unroll q start end body ≡ true = ap is_unrolled_away (sym is) ∙ c.requires.shape in
    let facts = c.args.body.now in
    let reported = subst (λ (t : Tree). IsWrapperOf facts t) is c.requires.body in
    let part = subst (λ (t : Tree). IsPart t) is c.requires.part in
    let holds = wrapper_holds facts (loop q start end) body reported in
    let list = c.in_ok-list.list in
    let has : HasListFacts list (copies q.min body) =
    subst (λ (q' : Quantifier). HasListFacts list (copies q'.min body)) at.quant-is
    (c.in_ok-list.ensures body holds.has (rw (c.deref.ensures, at.is, out-Loop) at c.is_cat.ensures)) in
    let parts = c.in_ok-parts.parts.items in
    let copied : trees parts ≡ copies q.min body = rw (c.deref-2.ensures, at.is, out-Loop) at c.in_ok-parts.ensures.copies in
    let iterations : c.further_iterations-rest.result ≡ further_iterations q = rw at.quant-is at c.further_iterations-rest.ensures in
    let zero = ap (λ (q' : Quantifier). is_zero q'.max) (sym iterations) ∙ is_zero-reported c.further_iterations-rest.result.max in
    let none : is_zero (further_iterations q).max ≡ true = search (rules, tests) in
    rw (is, tree-Cat c.in_ok-parts.parts) (iterations_finished facts q start end body holds d part may list has parts copied none)

pub returns : goal.returns
returns c d =
    let at = c.in-Loop in
    let q = at.quant in
    let start = at.enclosed_groups.start in
    let end = at.enclosed_groups.end in
    let body = tree at.loopee.value in
    let is = ap tree at.is ∙ tree-Loop at.loopee at.quant at.enclosed_groups in
    let may : may_unroll q start end body ≡ true = ap is_unrolled_away (sym is) ∙ c.requires.shape in
    let facts = c.args.body.now in
    let reported = subst (λ (t : Tree). IsWrapperOf facts t) is c.requires.body in
    let part = subst (λ (t : Tree). IsPart t) is c.requires.part in
    let holds = wrapper_holds facts (loop q start end) body reported in
    let list = c.in_ok-list.list in
    let has : HasListFacts list (copies q.min body) =
    subst (λ (q' : Quantifier). HasListFacts list (copies q'.min body)) at.quant-is
    (c.in_ok-list.ensures body holds.has (rw (c.deref.ensures, at.is, out-Loop) at c.is_cat.ensures)) in
    let parts = c.in_ok-parts.parts.items in
    let copied : trees parts ≡ copies q.min body = rw (c.deref-2.ensures, at.is, out-Loop) at c.in_ok-parts.ensures.copies in
    let iterations : c.further_iterations-rest.result ≡ further_iterations q = rw at.quant-is at c.further_iterations-rest.ensures in
    let zero = ap (λ (q' : Quantifier). is_zero q'.max) (sym iterations) ∙ is_zero-reported c.further_iterations-rest.result.max in
    let more : is_zero (further_iterations q).max ≡ false = search (rules, tests) in
    let plan = c.in_ok-plan.plan in
    let planned : IsPlanned facts (further_iterations q) start end body plan =
    subst (λ (q' : Quantifier). IsPlanned facts q' start end body plan) iterations
    (rw (c.deref-3.ensures, at.is, out-Loop) at c.in_ok-plan.ensures) in
    let made : tree c.take_form.new.node ≡ in_form plan.form (further_iterations q) start end body =
    (rw (at.is, out-Loop) at c.take_form.ensures)
    ∙ ap (loop_in_form plan.form) (tree-Loop at.loopee c.further_iterations-rest.result at.enclosed_groups)
    ∙ ap (λ (q' : Quantifier). in_form plan.form q' start end body) iterations in
    let last = ap tree c.replace.ensures.value ∙ made in
    let whole = tree-Cat c.push.new.self ∙ ap (λ (ps : List Node). cat (trees ps)) c.in_ok-push.ensures.items
    ∙ ap cat (trees-append parts (c.replace.result ∷ []) ∙ ap₂ (λ (ts : Trees) (t : Tree). append_trees ts (more_trees t no_trees)) copied last) in
    let has_more = c.in_ok-add.ensures (copies q.min body) (in_form plan.form (further_iterations q) start end body) has planned.has
    (sym (form_no_cat plan.form (further_iterations q) start end body)) in
    rw is
    (unrolled_finished facts q start end body holds d part may c.add.new.self more plan planned has_more (tree (Cat c.push.new.self)) whole)
