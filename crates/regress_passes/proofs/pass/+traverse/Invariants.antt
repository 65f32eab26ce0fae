-- The effect of the traversals so far on the whole tree.
use Rattle.std.proofs.Common.{◌≡◌, ◌≤◌, ◌+◌, ◌*◌, true, Ok, length, take, drop}
use Rattle.regress_tree.specs.Tree.{Tree, Trees, tree, trees, append_trees}
use Rattle.regress_tree.specs.Visits.{Visited, ListVisited}
use Rattle.regress_tree.specs.Climbs.{ClimbedMut, further}
use Rattle.regress_passes.specs.Passes.{Applied}
use Rattle.regress_tree.specs.Walk.{direction_of}
use Rattle.regress_tree.specs.Units.{units, units_in_list}
use Rattle.regress_tree.specs.Spine.{spine_length}
use Rattle.regress_passes.proofs.SpineLemmas.{DownSwept}
use Rattle.regress_passes.proofs.PartsLemmas.{PartsSwept}
use Rattle.regress_passes.proofs.pass.+traverse.Given as goal

abbrev pub invariant-traverse_alternatives-loop-nesting : goal.invariant-traverse_alternatives-loop-nesting
invariant-traverse_alternatives-loop-nesting g l =
    let old = tree l.initial.node in
    record {
      nesting : l.nesting ≡ spine_length (tree l.above);
      smaller : units (tree l.node) ≤ units old;
      visited : (t u : Tree) (b c : _) →
          Visited (Applied g.R.Rewrite.step l.walk.unicode) true (further l.nesting l.walk.depth) l.walk.in_lookbehind (tree l.node) t (l.pass, true) b →
          ClimbedMut (Applied g.R.Rewrite.step l.walk.unicode) (tree l.above) l.walk.depth l.walk.in_lookbehind t u b c →
          Visited (Applied g.R.Rewrite.step l.walk.unicode) true l.walk.depth l.walk.in_lookbehind old u (l.initial.pass, true) c;
      swept : DownSwept g.R.Rewrite.is_exact (direction_of l.walk) g.R.Rewrite.removes old (tree l.above) (tree l.node) (Ok l.changed);
    }

abbrev pub decreases-traverse_alternatives-loop-nesting : goal.decreases-traverse_alternatives-loop-nesting
decreases-traverse_alternatives-loop-nesting g l = units (tree l.node)

abbrev pub invariant-traverse_parts-loop-i : goal.invariant-traverse_parts-loop-i
invariant-traverse_parts-loop-i g l =
    let old = l.initial.parts.items in
    record {
      length : length l.parts.items ≡ length old;
      unvisited : drop l.i l.parts.items ≡ drop l.i old;
      visited : (ts : Trees) (b : _) →
          ListVisited (Applied g.R.Rewrite.step l.walk.unicode) true l.walk.depth l.walk.in_lookbehind (trees (drop l.i old)) ts (l.pass, true) b →
          ListVisited (Applied g.R.Rewrite.step l.walk.unicode) true l.walk.depth l.walk.in_lookbehind (trees old)
          (append_trees (trees (take l.i l.parts.items)) ts)
          (l.initial.pass, true) b;
      swept : PartsSwept g.R.Rewrite.removes g.R.Rewrite.is_exact (direction_of l.walk) old l.parts.items l.i (Ok l.changed);
    }

-- each call is on a smaller node, or on the same node and a later function of this list

abbrev pub decreases-traverse : goal.decreases-traverse
decreases-traverse g l = 5 * units (tree l.node.now) + 3

abbrev pub decreases-traverse_alternatives : goal.decreases-traverse_alternatives
decreases-traverse_alternatives g l = 5 * units (tree l.node.now) + 2

abbrev pub decreases-traverse_node : goal.decreases-traverse_node
decreases-traverse_node g l = 5 * units (tree l.node.now) + 1

abbrev pub decreases-traverse_children : goal.decreases-traverse_children
decreases-traverse_children g l = 5 * units (tree l.node.now)

abbrev pub decreases-traverse_sides : goal.decreases-traverse_sides
decreases-traverse_sides g l = 5 * (units (tree l.left.now) + units (tree l.right.now)) + 4

abbrev pub decreases-traverse_parts : goal.decreases-traverse_parts
decreases-traverse_parts g l = 5 * units_in_list (trees l.parts.now.items) + 4
