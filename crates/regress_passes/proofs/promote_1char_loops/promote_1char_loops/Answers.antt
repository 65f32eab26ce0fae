-- The law, from what happened to the body.
use Rattle.regress_tree.specs.Tree.{tree}
use Rattle.regress_tree.proofs.lemmas.Nesting.{out-Loop}
use Rattle.regress_tree.proofs.lemmas.Nodes.{tree-Loop}
use Rattle.regress_passes.proofs.PromoteLemmas.{promote_lawful}
use Rattle.regress_passes.proofs.promote_1char_loops.promote_1char_loops.Goals as goal

pub returns-in-Loop-clause-lawful : goal.returns-in-Loop-clause-lawful
returns-in-Loop-clause-lawful c d =
    let l = c.in-Loop in
    let part = simp tree-Loop at (rw l.is at c.requires) in
    let action = rw (l.is, out-Loop) at c.promote_loop.ensures.action in
    let left = tree c.promote_loop.new.body.value in
    rw (l.is, out-Loop)
    (simp tree-Loop
    (promote_lawful d l.quant l.enclosed_groups.start l.enclosed_groups.end (tree l.loopee.value) c.promote_loop.result left part action))
