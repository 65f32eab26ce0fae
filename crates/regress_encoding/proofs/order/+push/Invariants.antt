-- Appending the remaining numbers, and setting those at the indices, completes the whole. The loop descends, and the calls
-- in it are on smaller nodes.
use Rattle.std.proofs.Common.{◌≤◌, ◌+◌, [], ◌++◌, drop}
use Rattle.regress_tree.specs.declared.ir.node.Node.{size-Node}
use Rattle.regress_tree.specs.Tree.{tree, trees}
use Rattle.regress_tree.specs.Visits.{nodes, nodes_in_list}
use Rattle.regress_encoding.specs.Order.{numbers_in_list, numbers_of}
use Rattle.regress_encoding.proofs.OrderLemmas.{IsOpen}
use Rattle.regress_encoding.proofs.order.+push.Given as goal

abbrev pub invariant-push_open-loop-indices : goal.invariant-push_open-loop-indices
invariant-push_open-loop-indices l = record {
  smaller : size-Node l.node ≤ size-Node l.initial.node;
  remains : IsOpen (l.initial.numbers.items ++ numbers_of l.initial.next (tree l.initial.node)) (l.initial.next + nodes (tree l.initial.node))
      l.numbers.items l.indices.items l.next (nodes (tree l.node)) (numbers_of l.next (tree l.node));
}

abbrev pub decreases-push_open-loop-indices : goal.decreases-push_open-loop-indices
decreases-push_open-loop-indices l = size-Node l.node

abbrev pub invariant-push_trees-loop-part : goal.invariant-push_trees-loop-part
invariant-push_trees-loop-part l =
    IsOpen (l.initial.numbers.items ++ numbers_in_list l.initial.next (trees l.parts)) (l.initial.next + nodes_in_list (trees l.parts))
    l.numbers.items [] l.next (nodes_in_list (trees (drop l.part-index l.parts))) (numbers_in_list l.next (trees (drop l.part-index l.parts)))
