use Rattle.std.proofs.Common.{◌≡◌}
use Rattle.regress_tree.specs.Spine.{reattach}
use Rattle.regress_tree.specs.Tree.{tree}
use Rattle.regress_tree.specs.Units.{units}
use Rattle.regress_normalize.proofs.traversal.descend.Given as goal

-- the whole tree is unchanged
abbrev pub invariant-loop : goal.invariant-loop
invariant-loop l = reattach (tree l.above) (tree l.node) ≡ tree l.initial.node

abbrev pub decreases-loop : goal.decreases-loop
decreases-loop l = units (tree l.node)
