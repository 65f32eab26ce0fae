-- What happened to the loop and the copies.
use Rattle.std.proofs.Common.{◌≡◌, true, List, Vec, Global, rules, sym, ap, subst, ◌∙◌, tests}
use Rattle.regress_tree.specs.declared.ir.node.Node.{Node}
use Rattle.regress_tree.specs.declared.ir.node.Node.TheVariants.{Cat}
use Rattle.regress_base.specs.declared.types.Quantifier.{Quantifier}
use Rattle.regress_tree.specs.Shapes.{is_unrolled_away, is_zero, may_unroll}
use Rattle.regress_tree.specs.Tree.{Tree, tree, wrapped, loop, cat, trees, copies}
use Rattle.regress_tree.proofs.lemmas.Nodes.{tree-Loop, tree-Cat}
use Rattle.regress_tree.proofs.lemmas.Nesting.{out-Loop}
use Rattle.regress_rewrite.specs.Law.{IsPart}
use Rattle.regress_rewrite.specs.Unroll.{further_iterations, unrolled}
use Rattle.regress_passes.specs.Unrolled.{unrolled_loop}
use Rattle.regress_rewrite.proofs.lemmas.Unrolling.{MayUnroll-from, unrolled-without, body_groupless, is_zero-reported}
use Rattle.regress_passes.proofs.UnrollLemmas.{unrolled-with}
use Rattle.regress_passes.proofs.unroll_loops.unroll.Goals as goal
use Rattle.regress_passes.proofs.unroll_loops.unroll.Goals.{then-ne+in_ok-push, else-ne}

pub required_copies-requires-clause-groups : goal.required_copies-requires-clause-groups
required_copies-requires-clause-groups c =
    let at = c.in-Loop in
    let body = tree at.loopee.value in
    let is = ap tree at.is ∙ tree-Loop at.loopee at.quant at.enclosed_groups in
    let part = subst (λ (t : Tree). IsPart t) is c.requires.part in
    let may : may_unroll at.quant at.enclosed_groups.start at.enclosed_groups.end body ≡ true = ap is_unrolled_away (sym is) ∙ c.requires.shape in
    let facts = MayUnroll-from at.quant at.enclosed_groups.start at.enclosed_groups.end body may in
    rw (c.deref.ensures, at.loopee-is) (body_groupless at.quant at.enclosed_groups.start at.enclosed_groups.end body facts part)

-- the node is the unrolled loop
pub returns-clause-unrolled : goal.returns-clause-unrolled
returns-clause-unrolled c =
    let at = c.in-Loop in
    let q = at.quant in
    let start = at.enclosed_groups.start in
    let end = at.enclosed_groups.end in
    let body = tree at.loopee.value in
    let is = ap tree at.is ∙ tree-Loop at.loopee at.quant at.enclosed_groups in
    let parts = c.in_ok-parts.parts.items in
    let copied : trees parts ≡ copies q.min body = rw (c.deref.ensures, at.is, out-Loop) at c.in_ok-parts.ensures.copies in
    let iterations : c.further_iterations.result ≡ further_iterations q = rw at.quant-is at c.further_iterations.ensures in
    let zero = ap (λ (q' : Quantifier). is_zero q'.max) (sym iterations) ∙ is_zero-reported c.further_iterations.result.max in
    let list_is : tree (Cat c.if-ne.parts) ≡ unrolled q start end body =
    tree-Cat c.if-ne.parts
    ∙ elim c.if-ne.branch [
      | then-ne+in_ok-push w ↦
          let further = rw (at.is, out-Loop) at w.replace.ensures.value in
          let tree_of_further = ap tree further ∙ tree-Loop at.loopee c.further_iterations.result at.enclosed_groups
          ∙ ap (λ (q' : Quantifier). wrapped (loop q' start end) body) iterations in
          ap (λ (ps : Vec Node Global). cat (trees ps.items)) w.parts-is ∙ ap (λ (ps : List Node). cat (trees ps)) w.in_ok-push.ensures.items
          ∙ unrolled-with q start end body parts copied w.replace.result tree_of_further (search (rules, tests))
      | else-ne w ↦
          ap (λ (ps : Vec Node Global). cat (trees ps.items)) w.parts-is
          ∙ unrolled-without q start end body parts copied (search (rules, tests))
    ] in
    list_is ∙ ap unrolled_loop (sym is)
