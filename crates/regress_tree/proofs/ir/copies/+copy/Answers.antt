-- One more node is copied.
use Rattle.std.proofs.Common.{ap}
use Rattle.regress_tree.specs.Tree.{tree, list}
use Rattle.regress_tree.proofs.LoopLemmas.{copied_next, copied_all}
use Rattle.regress_tree.proofs.ir.copies.+copy.Goals as goal

pub copy_nodes-loop-node-preserved : goal.copy_nodes-loop-node-preserved
copy_nodes-loop-node-preserved t c =
    let l = c.loop-node in
    rw c.in_ok-push.ensures.items
    (copied_next tree c.args.nodes.now l.node-index l.copies.items l.invariant c.node-item.result c.in_ok-copy_node.field-0 c.loop-node-test.true c.node-item.is
    c.in_ok-copy_node.ensures)

pub copy_nodes-returns : goal.copy_nodes-returns
copy_nodes-returns t c =
    let l = c.loop-node in
    ap list (copied_all tree c.args.nodes.now l.node-index l.copies.items l.invariant c.loop-node-test.false)
