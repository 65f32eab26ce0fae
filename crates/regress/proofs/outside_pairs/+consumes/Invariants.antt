-- The remaining alternatives or parts decide.
use Rattle.std.proofs.Common.{◌≡◌, ◌≤◌, drop}
use Rattle.regress_tree.specs.Tree.{tree, trees}
use Rattle.regress_tree.specs.declared.ir.node.Node.{size-Node}
use Rattle.regress.specs.OutsidePairs.{some_tree_consumes, tree_consumes}
use Rattle.regress.proofs.outside_pairs.+consumes.Given as goal

abbrev pub invariant-consumes-loop-last : goal.invariant-consumes-loop-last
invariant-consumes-loop-last l = record {
  smaller : size-Node l.last ≤ size-Node l.node;
  rest : tree_consumes (tree l.node) ≡ tree_consumes (tree l.last);
}

abbrev pub invariant-some_consumes-loop-part : goal.invariant-some_consumes-loop-part
invariant-some_consumes-loop-part l = some_tree_consumes (trees l.parts) ≡ some_tree_consumes (trees (drop l.part-index l.parts))
