-- The remaining visits complete those of the whole.
use Rattle.std.proofs.Common.{◌≡◌, ◌≤◌, ◌+◌, ◌*◌, true, false, take, drop, length}
use Rattle.regress_tree.specs.Tree.{tree, trees, append_trees}
use Rattle.regress_tree.specs.Spine.{reattach, spine_length}
use Rattle.regress_tree.specs.Visits.{CallsMut, Visited, ListVisited, nodes, nodes_in_list}
use Rattle.regress_tree.specs.Climbs.{ClimbedMut, further}
use Rattle.regress_tree.proofs.ir.visit_mut.+visit_mut.Given as goal

abbrev pub invariant-visit_before-loop-here : goal.invariant-visit_before-loop-here
invariant-visit_before-loop-here g l =
    let Call = CallsMut (goal.F-step g) l.walk.unicode in
    let lookbehind = l.walk.in_lookbehind in
    record {
      callable : goal.F-IsAlwaysCallable g l.func;
      smaller : nodes (tree l.n) ≤ nodes (tree l.initial.n);
      direction : l.here.in_lookbehind ≡ lookbehind;
      unicode : l.here.unicode ≡ l.walk.unicode;
      visited : (t : _) (b : _) → Visited Call false l.here.depth lookbehind (tree l.n) t l.func b →
          Visited Call false l.walk.depth lookbehind (tree l.initial.n) (reattach (tree l.above) t) l.initial.func b;
    }

abbrev pub decreases-visit_before-loop-here : goal.decreases-visit_before-loop-here
decreases-visit_before-loop-here g l = nodes (tree l.n)

abbrev pub invariant-visit_after-loop-nesting : goal.invariant-visit_after-loop-nesting
invariant-visit_after-loop-nesting g l =
    let Call = CallsMut (goal.F-step g) l.walk.unicode in
    let lookbehind = l.walk.in_lookbehind in
    record {
      callable : goal.F-IsAlwaysCallable g l.func;
      smaller : nodes (tree l.n) ≤ nodes (tree l.initial.n);
      nesting : l.nesting ≡ spine_length (tree l.above);
      depth : l.here.depth ≡ further l.nesting l.walk.depth;
      direction : l.here.in_lookbehind ≡ lookbehind;
      unicode : l.here.unicode ≡ l.walk.unicode;
      visited : (t u : _) (b c : _) → Visited Call true l.here.depth lookbehind (tree l.n) t l.func b →
          ClimbedMut Call (tree l.above) l.walk.depth lookbehind t u b c →
          Visited Call true l.walk.depth lookbehind (tree l.initial.n) u l.initial.func c;
    }

abbrev pub decreases-visit_after-loop-nesting : goal.decreases-visit_after-loop-nesting
decreases-visit_after-loop-nesting g l = nodes (tree l.n)

abbrev pub invariant-visit_list-loop-i : goal.invariant-visit_list-loop-i
invariant-visit_list-loop-i g l =
    let Call = CallsMut (goal.F-step g) l.walk.unicode in
    let lookbehind = l.walk.in_lookbehind in
    let old = l.initial.parts.items in
    record {
      callable : goal.F-IsAlwaysCallable g l.func;
      length : length l.parts.items ≡ length old;
      unvisited : drop l.i l.parts.items ≡ drop l.i old;
      visited : (ts : _) (b : _) → ListVisited Call l.postorder l.walk.depth lookbehind (trees (drop l.i old)) ts l.func b →
          ListVisited Call l.postorder l.walk.depth lookbehind (trees old) (append_trees (trees (take l.i l.parts.items)) ts) l.initial.func b;
    }

-- each call is on a part, or on a later function of this list

abbrev pub decreases-visit_mut : goal.decreases-visit_mut
decreases-visit_mut g l = 5 * nodes (tree l.n.now) + 4

abbrev pub decreases-visit_before : goal.decreases-visit_before
decreases-visit_before g l = 5 * nodes (tree l.n.now) + 3

abbrev pub decreases-visit_after : goal.decreases-visit_after
decreases-visit_after g l = 5 * nodes (tree l.n.now) + 3

abbrev pub decreases-visit_inside : goal.decreases-visit_inside
decreases-visit_inside g l = 5 * nodes (tree l.n.now) + 1

abbrev pub decreases-visit_list : goal.decreases-visit_list
decreases-visit_list g l = 5 * nodes_in_list (trees l.parts.now.items) + 5
