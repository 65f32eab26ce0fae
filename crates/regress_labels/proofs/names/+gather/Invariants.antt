-- The loop descends, and the calls in it are on smaller nodes.
use Rattle.std.proofs.Common.{◌≤◌}
use Rattle.regress_tree.specs.declared.ir.node.Node.{size-Node}
use Rattle.regress_labels.proofs.names.+gather.Given as goal

abbrev pub invariant-gather-loop-node : goal.invariant-gather-loop-node
invariant-gather-loop-node l = size-Node l.node ≤ size-Node l.initial.node

abbrev pub decreases-gather-loop-node : goal.decreases-gather-loop-node
decreases-gather-loop-node l = size-Node l.node
