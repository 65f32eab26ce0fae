-- The remaining alternatives are smaller.
use Rattle.regress_tree.specs.declared.ir.node.Node.{size-Node}
use Rattle.regress_explain.proofs.outline.skip_atom.Given as goal

abbrev pub decreases-loop-rest : goal.decreases-loop-rest
decreases-loop-rest l = size-Node l.rest
