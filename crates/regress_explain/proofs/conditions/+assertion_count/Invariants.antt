-- The remaining alternatives are not larger.
use Rattle.std.proofs.Common.{◌≤◌}
use Rattle.regress_tree.specs.declared.ir.node.Node.{size-Node}
use Rattle.regress_explain.proofs.conditions.+assertion_count.Given as goal

abbrev pub invariant-assertion_count-loop-last : goal.invariant-assertion_count-loop-last
invariant-assertion_count-loop-last l = size-Node l.last ≤ size-Node l.node
