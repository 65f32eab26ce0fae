-- The last of the remaining nodes is the last of all.
use Rattle.std.proofs.Common.{◌≡◌, length}
use Rattle.std.specs.Prelude.{option_map}
use Rattle.std.specs.List.{zip}
use Rattle.regress_tree.specs.Tree.{Tree, tree}
use Rattle.regress_spans.specs.Children.{trees_at}
use Rattle.regress_warnings.specs.Warned.{last_tree, tree_or}
use Rattle.regress_warnings.proofs.impossible.last_of.Given as goal

abbrev pub invariant-loop-nodes : goal.invariant-loop-nodes
invariant-loop-nodes l =
    (t : Tree) → last_tree t (zip (trees_at l.fn.nodes) l.fn.spans) ≡ last_tree (tree_or t (option_map (λ n. tree n.now) l.last)) (zip (trees_at l.nodes) l.spans)

abbrev pub decreases-loop-nodes : goal.decreases-loop-nodes
decreases-loop-nodes l = length l.nodes
