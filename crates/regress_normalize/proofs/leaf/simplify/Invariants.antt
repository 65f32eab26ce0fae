use Rattle.regress_tree.specs.Shapes.{is_simplified_away}
use Rattle.regress_tree.specs.Tree.{tree}
use Rattle.regress_tree.specs.Units.{weight}
use Rattle.regress_normalize.specs.Steps.{Clears}
use Rattle.regress_normalize.proofs.leaf.simplify.Given as goal

abbrev pub invariant-loop-action : goal.invariant-loop-action
invariant-loop-action l = Clears is_simplified_away (tree l.initial.node) (tree l.node)

-- each change reduces the weight of the bracket
abbrev pub decreases-loop-action : goal.decreases-loop-action
decreases-loop-action l = weight (tree l.node)
