use Rattle.std.proofs.Common.{◌≤◌}
use Rattle.regress_tree.specs.declared.ir.node.Node.{size-Node}
use Rattle.regress_tree.proofs.ir.node.Node.+drop.Given as goal

-- the loop descends, and the calls in it are on smaller nodes
abbrev pub invariant-loop-self : goal.invariant-loop-self
invariant-loop-self l = size-Node l.self ≤ size-Node l.initial.self

abbrev pub decreases-loop-self : goal.decreases-loop-self
decreases-loop-self l = size-Node l.self
