-- The alternatives so far have no anchor.
use Rattle.std.proofs.Common.{◌≡◌}
use Rattle.regress_tree.specs.Tree.{tree}
use Rattle.regress_tree.specs.declared.ir.node.Node.{size-Node}
use Rattle.regress_warnings.specs.Alternatives.{ends_with_anchor}
use Rattle.regress_warnings.proofs.alternatives.ends_with_anchor.Given as goal

abbrev pub invariant-loop-last : goal.invariant-loop-last
invariant-loop-last l = ends_with_anchor (tree l.fn.node) ≡ ends_with_anchor (tree l.last)

abbrev pub decreases-loop-last : goal.decreases-loop-last
decreases-loop-last l = size-Node l.last
