-- The remaining alternatives or parts decide.
use Rattle.std.proofs.Common.{◌≡◌, ◌≤◌, drop}
use Rattle.regress_program.specs.Linear.{changes_some, changes_some_of}
use Rattle.regress_tree.specs.Tree.{tree, trees}
use Rattle.regress_tree.specs.declared.ir.node.Node.{size-Node}
use Rattle.regress_warnings.proofs.captures.+captures.Given as goal

abbrev pub invariant-captures-loop-last : goal.invariant-captures-loop-last
invariant-captures-loop-last l = record {
  smaller : size-Node l.last ≤ size-Node l.node;
  rest : changes_some (tree l.node) ≡ changes_some (tree l.last);
}

abbrev pub invariant-some_captures-loop-part : goal.invariant-some_captures-loop-part
invariant-some_captures-loop-part l = changes_some_of (trees l.parts) ≡ changes_some_of (trees (drop l.part-index l.parts))
