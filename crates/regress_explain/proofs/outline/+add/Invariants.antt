-- The remaining alternatives are smaller.
use Rattle.std.proofs.Common.{◌<◌}
use Rattle.regress_tree.specs.declared.ir.node.Node.{size-Node}
use Rattle.regress_explain.proofs.outline.+add.Given as goal

abbrev pub invariant-add_alternatives-loop-rest : goal.invariant-add_alternatives-loop-rest
invariant-add_alternatives-loop-rest l = size-Node l.rest < size-Node l.node
