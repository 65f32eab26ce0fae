-- No group was found so far, so the result is that of the nodes not yet searched.
use Rattle.std.proofs.Common.{◌≡◌, ◌≤◌, drop}
use Rattle.regress_tree.specs.declared.ir.node.Node.{size-Node}
use Rattle.regress_tree.specs.Tree.{tree, trees}
use Rattle.regress_tree.specs.Shapes.{has_group, on_wrapper, is_group, some_node_in_list}
use Rattle.regress_passes.proofs.has_group.+search.Given as goal

abbrev pub invariant-has_group-loop-node : goal.invariant-has_group-loop-node
invariant-has_group-loop-node l = record {
  rest : has_group (tree l.node) ≡ has_group (tree l.initial.node);
  smaller : size-Node l.node ≤ size-Node l.initial.node;
}

abbrev pub invariant-some_has_group-loop-node : goal.invariant-some_has_group-loop-node
invariant-some_has_group-loop-node l =
    some_node_in_list (on_wrapper is_group) (trees (drop l.node-index l.nodes)) ≡ some_node_in_list (on_wrapper is_group) (trees l.nodes)
