-- The copies so far, and the remaining nodes.
use Rattle.std.proofs.Common.{◌≡◌, ◌≤◌, map, take}
use Rattle.regress_tree.specs.declared.ir.node.Node.{size-Node}
use Rattle.regress_tree.specs.Tree.{tree}
use Rattle.regress_tree.specs.Spine.{reattach}
use Rattle.regress_tree.proofs.ir.copies.+copy.Given as goal

abbrev pub invariant-copy_node-loop-node : goal.invariant-copy_node-loop-node
invariant-copy_node-loop-node l = record {
  whole : reattach (tree l.above) (tree l.node) ≡ tree l.initial.node;
  smaller : size-Node l.node ≤ size-Node l.initial.node;
}

abbrev pub invariant-copy_nodes-loop-node : goal.invariant-copy_nodes-loop-node
invariant-copy_nodes-loop-node l = map tree l.copies.items ≡ map tree (take l.node-index l.nodes)
