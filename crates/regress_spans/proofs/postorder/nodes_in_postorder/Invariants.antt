-- What is waiting, in postorder, is before what was found, reversed.
use Rattle.std.proofs.Common.{◌≡◌, ◌++◌, length, reverse}
use Rattle.regress_tree.specs.Tree.{tree}
use Rattle.regress_spans.specs.Paired.{postorder}
use Rattle.regress_spans.specs.Children.{trees_at}
use Rattle.regress_spans.proofs.lemmas.Postorder.{all_postorder}
use Rattle.regress_spans.proofs.postorder.nodes_in_postorder.Given as goal

abbrev pub invariant-loop-node : goal.invariant-loop-node
invariant-loop-node l = all_postorder (trees_at l.waiting.items) ++ reverse (trees_at l.nodes.items) ≡ postorder (tree l.fn.root)

abbrev pub decreases-loop-node : goal.decreases-loop-node
decreases-loop-node l = length (all_postorder (trees_at l.waiting.items))
