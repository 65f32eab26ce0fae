use Rattle.std.proofs.Common.{◌+◌, ◌∷◌, drop, sym, ap, ◌∙◌, arith}
use Rattle.std.proofs.lemmas.List.{drop_more}
use Rattle.regress_tree.specs.Tree.{tree, trees}
use Rattle.regress_passes.specs.Unrolled.{remaining_budget_of_parts}
use Rattle.regress_tree.proofs.lemmas.Nodes.{tree-Cat, tree-Alt}
use Rattle.regress_passes.proofs.ChargeLemmas.{remaining_budget-more, charged-cat, charged-alt, rejected-alt, charged-none}
use Rattle.regress_passes.proofs.unroll_loops.+remaining_budget.Goals as goal

pub remaining_budget_of_parts-loop-part-preserved : goal.remaining_budget_of_parts-loop-part-preserved
remaining_budget_of_parts-loop-part-preserved t c =
    let l = c.loop-part in
    let parts = c.args.parts.now in
    let after = drop (l.part-index + 1) parts in
    let cut = drop_more parts l.part-index c.part-item.result c.loop-part-test.true ∙ ap (λ n. n ∷ after) (sym c.part-item.is) in
    remaining_budget-more c.args.nesting l.left c.in_ok-left.left (tree c.part-item.result) (trees after) c.in_ok-left.ensures
    ∙ sym (ap (λ ps. remaining_budget_of_parts c.args.nesting l.left (trees ps)) cut) ∙ l.invariant

pub remaining_budget-returns-in_err-inside : goal.remaining_budget-returns-in_err-inside
remaining_budget-returns-in_err-inside t c =
    c.from_residual.ensures ∙ charged-none c.args.nesting c.args.budget (tree c.args.node.now) (λ level one. c.in_err-inside.ensures level)

pub remaining_budget-returns-in_err-left : goal.remaining_budget-returns-in_err-left
remaining_budget-returns-in_err-left t c =
    c.from_residual-in_err-left.ensures
    ∙ charged-none c.args.nesting c.args.budget (tree c.args.node.now) (λ level one. c.in_err-left.ensures one)

pub remaining_budget-returns-in-Cat : goal.remaining_budget-returns-in-Cat
remaining_budget-returns-in-Cat t c =
    let charged = charged-cat c.args.nesting c.args.budget c.in_ok-inside.inside c.in_ok-left.left (omega arith) (omega arith) (trees c.in-Cat.parts.items) in
    rw (c.in-Cat.is, tree-Cat)
    (c.remaining_budget_of_parts.ensures ∙ ap (λ ns. remaining_budget_of_parts c.in_ok-inside.inside c.in_ok-left.left (trees ns)) c.deref.ensures.value ∙ charged)

pub remaining_budget-returns-in_err-remaining_budget-in-Alt : goal.remaining_budget-returns-in_err-remaining_budget-in-Alt
remaining_budget-returns-in_err-remaining_budget-in-Alt t c =
    let is = rw c.deref-in-Alt-2.ensures at c.in_err-remaining_budget-in-Alt.ensures in
    rw (c.in-Alt.is, tree-Alt)
    (c.from_residual-in_err-remaining_budget-in-Alt.ensures
    ∙ rejected-alt c.args.nesting c.args.budget c.in_ok-inside.inside c.in_ok-left.left (omega arith) (omega arith) (tree c.in-Alt.first.value)
    (tree c.in-Alt.second.value) is)

pub remaining_budget-returns-in_ok-remaining_budget-in-Alt : goal.remaining_budget-returns-in_ok-remaining_budget-in-Alt
remaining_budget-returns-in_ok-remaining_budget-in-Alt t c =
    let rest = c.in_ok-remaining_budget-in-Alt.field-0 in
    rw (c.in-Alt.is, tree-Alt)
    ((rw c.deref-in-Alt.ensures at c.remaining_budget-in-Alt.ensures)
    ∙ charged-alt c.args.nesting c.args.budget c.in_ok-inside.inside c.in_ok-left.left (omega arith) (omega arith) (tree c.in-Alt.first.value)
    (tree c.in-Alt.second.value) rest
    (rw c.deref-in-Alt-2.ensures at c.in_ok-remaining_budget-in-Alt.ensures))
