-- The remaining alternatives or parts decide.
use Rattle.std.proofs.Common.{◌≡◌, ◌≤◌, drop}
use Rattle.regress_tree.specs.Tree.{tree, trees}
use Rattle.regress_tree.specs.declared.ir.node.Node.{size-Node}
use Rattle.regress.specs.OutsidePairs.{tree_is_outside, trees_are_outside}
use Rattle.regress.proofs.outside_pairs.+is_outside.Given as goal

abbrev pub invariant-is_outside-loop-last : goal.invariant-is_outside-loop-last
invariant-is_outside-loop-last l = record {
  smaller : size-Node l.last ≤ size-Node l.node;
  rest : tree_is_outside (tree l.node) ≡ tree_is_outside (tree l.last);
}

abbrev pub invariant-are_outside-loop-part : goal.invariant-are_outside-loop-part
invariant-are_outside-loop-part l = trees_are_outside (trees l.parts) ≡ trees_are_outside (trees (drop l.part-index l.parts))
