-- The remaining alternatives or parts decide.
use Rattle.std.proofs.Common.{◌≡◌, ◌≤◌, drop}
use Rattle.regress_tree.specs.Tree.{tree, trees}
use Rattle.regress_tree.specs.declared.ir.node.Node.{size-Node}
use Rattle.regress_warnings.specs.Empty.{can_be_empty, all_can_be_empty}
use Rattle.regress_warnings.proofs.empty.+can_be_empty.Given as goal

abbrev pub invariant-can_be_empty-loop-last : goal.invariant-can_be_empty-loop-last
invariant-can_be_empty-loop-last l = record {
  smaller : size-Node l.last ≤ size-Node l.node;
  rest : can_be_empty (tree l.node) ≡ can_be_empty (tree l.last);
}

abbrev pub invariant-all_can_be_empty-loop-part : goal.invariant-all_can_be_empty-loop-part
invariant-all_can_be_empty-loop-part l = all_can_be_empty (trees l.parts) ≡ all_can_be_empty (trees (drop l.part-index l.parts))
