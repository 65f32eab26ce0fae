-- The remaining visits complete those of the whole.
use Rattle.std.proofs.Common.{◌≡◌, ◌≤◌, true, false, drop}
use Rattle.regress_tree.specs.declared.ir.node.Node.{size-Node}
use Rattle.regress_tree.specs.Tree.{tree, trees}
use Rattle.regress_tree.specs.Visits.{Calls, Visited, ListVisited}
use Rattle.regress_tree.specs.Climbs.{Climbed, further, down}
use Rattle.regress_tree.proofs.ir.visit.+visit.Given as goal

abbrev pub invariant-visit_before-loop-node : goal.invariant-visit_before-loop-node
invariant-visit_before-loop-node g l =
    let Call = Calls (goal.F-step g) l.walk.unicode in
    record {
      callable : goal.F-IsAlwaysCallable g l.func;
      smaller : size-Node l.node ≤ size-Node l.n;
      direction : l.here.in_lookbehind ≡ l.walk.in_lookbehind;
      unicode : l.here.unicode ≡ l.walk.unicode;
      visited : (last : _) → Visited Call false l.here.depth l.walk.in_lookbehind (tree l.node) (tree l.node) l.func last →
          Visited Call false l.walk.depth l.walk.in_lookbehind (tree l.n) (tree l.n) l.initial.func last;
    }

abbrev pub decreases-visit_before-loop-node : goal.decreases-visit_before-loop-node
decreases-visit_before-loop-node g l = size-Node l.node

abbrev pub invariant-visit_after-loop-nesting : goal.invariant-visit_after-loop-nesting
invariant-visit_after-loop-nesting g l =
    let Call = Calls (goal.F-step g) l.walk.unicode in
    let lookbehind = l.walk.in_lookbehind in
    record {
      callable : goal.F-IsAlwaysCallable g l.func;
      smaller : size-Node l.last ≤ size-Node l.n;
      below : tree l.last ≡ down l.nesting (tree l.n);
      depth : l.here.depth ≡ further l.nesting l.walk.depth;
      direction : l.here.in_lookbehind ≡ lookbehind;
      unicode : l.here.unicode ≡ l.walk.unicode;
      visited : (b c : _) → Visited Call true l.here.depth lookbehind (tree l.last) (tree l.last) l.func b →
          Climbed Call l.nesting l.walk.depth lookbehind (tree l.n) b c →
          Visited Call true l.walk.depth lookbehind (tree l.n) (tree l.n) l.initial.func c;
    }

abbrev pub decreases-visit_after-loop-nesting : goal.decreases-visit_after-loop-nesting
decreases-visit_after-loop-nesting g l = size-Node l.last

abbrev pub invariant-visit_list-loop-part : goal.invariant-visit_list-loop-part
invariant-visit_list-loop-part g l =
    let Call = Calls (goal.F-step g) l.walk.unicode in
    let lookbehind = l.walk.in_lookbehind in
    let rest = trees (drop l.part-index l.parts) in
    let all = trees l.parts in
    record {
      callable : goal.F-IsAlwaysCallable g l.func;
      visited : (last : _) → ListVisited Call l.postorder l.walk.depth lookbehind rest rest l.func last →
          ListVisited Call l.postorder l.walk.depth lookbehind all all l.initial.func last;
    }
