-- If the remaining alternatives are anchored, all are.
use Rattle.std.proofs.Common.{◌≤◌}
use Rattle.regress_tree.specs.Tree.{tree}
use Rattle.regress_tree.specs.declared.ir.node.Node.{size-Node}
use Rattle.regress_prefilter.specs.Candidates.{IsAnchored}
use Rattle.regress_prefilter.proofs.candidates.+is_anchored.Given as goal

abbrev pub invariant-is_anchored-loop-node : goal.invariant-is_anchored-loop-node
invariant-is_anchored-loop-node l = record {
  smaller : size-Node l.node ≤ size-Node l.initial.node;
  then_all : IsAnchored (tree l.node) → IsAnchored (tree l.initial.node);
}
