-- The remaining alternatives are smaller.
use Rattle.std.proofs.Common.{◌<◌}
use Rattle.regress_tree.specs.declared.ir.node.Node.{size-Node}
use Rattle.regress_explain.proofs.lengths.+length_of.Given as goal

abbrev pub invariant-length_of_alternatives-loop-rest : goal.invariant-length_of_alternatives-loop-rest
invariant-length_of_alternatives-loop-rest l = size-Node l.rest < size-Node l.node
