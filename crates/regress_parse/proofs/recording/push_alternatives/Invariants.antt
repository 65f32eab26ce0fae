use Rattle.std.proofs.Common.{◌≡◌, ◌++◌, replicate}
use Rattle.regress_tree.specs.declared.ir.node.Node.{size-Node}
use Rattle.regress_tree.specs.Tree.{tree}
use Rattle.regress_tree.specs.Visits.{nodes}
use Rattle.regress_parse.specs.Recorded.{IsChain}
use Rattle.regress_parse.proofs.recording.push_alternatives.Given as goal

-- The spans of the remaining nodes are still to be appended.
abbrev pub invariant-loop-last : goal.invariant-loop-last
invariant-loop-last l = IsChain (tree l.item) → IsChain (tree l.last)
    × (l.spans.items ++ replicate (nodes (tree l.last)) l.span ≡ l.fn.spans.items ++ replicate (nodes (tree l.item)) l.span)

abbrev pub decreases-loop-last : goal.decreases-loop-last
decreases-loop-last l = size-Node l.last
