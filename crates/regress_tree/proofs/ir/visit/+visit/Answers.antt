-- The visits of a node are composed of those of its calls.
use Rattle.std.proofs.Common.{◌∙◌, sym, ap, refl, le_refl, le_trans, drop, ◌+◌, ◌∷◌}
use Rattle.std.proofs.lemmas.List.{drop_more, drop_all}
use Rattle.regress_tree.specs.Tree.{tree}
use Rattle.regress_tree.specs.Visits.{Calls, before_children, without_children, after_children, in_cat, in_wrapped, no_more, one_more}
use Rattle.regress_tree.proofs.lemmas.Nodes.{tree-Cat, tree-Alt, leaf_of}
use Rattle.regress_tree.proofs.lemmas.Visits.{at_leaf, in_Alt, right_smaller, down_next, further_next, after_next}
use Rattle.regress_tree.proofs.ir.visit.+visit.Goals as goal

pub visit_inside-returns-in-Cat-clause-visited : goal.visit_inside-returns-in-Cat-clause-visited
visit_inside-returns-in-Cat-clause-visited g t c =
    let inner = c.walk_inside-inner.ensures in
    let same = rw (c.in-Cat.is, tree-Cat) at inner.direction in
    rw (c.in-Cat.is, tree-Cat)
    (in_cat (rw (c.deref.ensures.value, inner.depth, same, inner.unicode) at c.visit_list.ensures.visited))

pub visit_inside-returns-in-Alt-clause-visited : goal.visit_inside-returns-in-Alt-clause-visited
visit_inside-returns-in-Alt-clause-visited g t c =
    let inner = c.walk_inside-inner.ensures in
    let same = rw (c.in-Alt.is, tree-Alt) at inner.direction in
    in_Alt _ c.args.n.now c.in-Alt.left c.in-Alt.right c.in-Alt.is
    (rw (c.deref-in-Alt.ensures, inner.depth, same, inner.unicode) at c.visit.ensures.visited)
    (rw (c.deref-in-Alt-2.ensures, inner.depth, same, inner.unicode) at c.visit-in-Alt.ensures.visited)

pub visit_inside-returns-in-Some-clause-visited : goal.visit_inside-returns-in-Some-clause-visited
visit_inside-returns-in-Some-clause-visited g t c =
    let inner = c.walk_inside-inner.ensures in
    let around = c.in-Some.ensures.body in
    let turned = rw around.is at inner.direction in
    rw around.is (in_wrapped (rw (inner.depth, turned, inner.unicode) at c.visit-in-Some.ensures.visited))

pub visit_inside-returns-in_default-body-clause-visited : goal.visit_inside-returns-in_default-body-clause-visited
visit_inside-returns-in_default-body-clause-visited g t c =
    let holds_none = leaf_of c.args.n.now c.in_default.not-Cat c.in_default.not-Alt c.in_default-body.ensures.body in
    at_leaf _ (tree c.args.n.now) holds_none

pub visit_before-returns-in_default : goal.visit_before-returns-in_default
visit_before-returns-in_default g t c =
    let so_far = c.loop-node.invariant in
    let called = rw (so_far.direction, so_far.unicode) at c.loop-node-test.ensures.called in
    let inside = rw (so_far.direction, so_far.unicode) at c.visit_inside.ensures.visited in
    record {
      callable = c.visit_inside.ensures.callable;
      visited = so_far.visited _ (before_children called inside);
    }

pub visit_before-loop-node-preserved : goal.visit_before-loop-node-preserved
visit_before-loop-node-preserved g t c =
    let so_far = c.loop-node.invariant in
    let here = c.inside-here.ensures in
    let called = rw (so_far.direction, so_far.unicode) at c.loop-node-test.ensures.called in
    let first = rw (c.deref.ensures, here.depth, here.direction, here.unicode, so_far.direction, so_far.unicode) at c.visit.ensures.visited in
    let is = c.in-Alt.is in
    record {
      callable = c.visit.ensures.callable;
      smaller = rw c.deref-node.ensures (le_trans (right_smaller _ _ _ is) so_far.smaller);
      direction = here.direction ∙ so_far.direction;
      unicode = here.unicode ∙ so_far.unicode;
      visited = λ last right.
          let second = rw (c.deref-node.ensures, here.depth) at right in
          so_far.visited last (before_children called (in_Alt _ _ _ _ is first second));
    }

pub visit_before-returns-clause-visited : goal.visit_before-returns-clause-visited
visit_before-returns-clause-visited g t c =
    let so_far = c.loop-node.invariant in
    let called = rw (so_far.direction, so_far.unicode) at c.loop-node-test.ensures.called in
    so_far.visited _ (without_children called)

pub visit_after-loop-nesting-init : goal.visit_after-loop-nesting-init
visit_after-loop-nesting-init g t c =
    let here = c.fresh-here.ensures in
    record {
      callable = c.requires;
      smaller = le_refl _;
      below = refl;
      depth = ap (λ w. w.depth) here;
      direction = ap (λ w. w.in_lookbehind) here;
      unicode = ap (λ w. w.unicode) here;
      visited = λ b c' visited none. rw (here, none) at visited;
    }

pub visit_after-loop-nesting-preserved : goal.visit_after-loop-nesting-preserved
visit_after-loop-nesting-preserved g t c =
    let l = c.loop-nesting in
    let walk = c.args.walk.now in
    let Call = Calls (goal.F-step g) walk.unicode in
    let so_far = l.invariant in
    let here = c.inside-here.ensures in
    let first = rw (c.deref.ensures, here.depth, here.direction, here.unicode, so_far.direction, so_far.unicode) at c.visit.ensures.visited in
    let is = c.in-Alt.is in
    record {
      callable = c.visit.ensures.callable;
      smaller = rw c.deref-last.ensures (le_trans (right_smaller _ _ _ is) so_far.smaller);
      below = rw c.deref-last.ensures (down_next _ _ _ l.nesting _ is so_far.below);
      depth = here.depth ∙ further_next l.nesting l.here.depth walk.depth so_far.depth;
      direction = here.direction ∙ so_far.direction;
      unicode = here.unicode ∙ so_far.unicode;
      visited = λ b e right climbed.
          let second = rw (c.deref-last.ensures, here.depth) at right in
          after_next Call l.nesting l.here.depth walk.depth walk.in_lookbehind (tree l.last.now) (tree c.args.n.now) _ b e _
          so_far.below so_far.depth (λ m visited rest. so_far.visited m e visited rest) (in_Alt _ _ _ _ is first second) climbed;
    }

pub visit_after-returns-clause-visited : goal.visit_after-returns-clause-visited
visit_after-returns-clause-visited g t c =
    let so_far = c.loop-nesting.invariant in
    let inside = rw (so_far.direction, so_far.unicode) at c.visit_inside.ensures.visited in
    let called = rw (so_far.direction, so_far.unicode) at c.call.ensures.called in
    so_far.visited _ _ (after_children inside called) c.climb.ensures.climbed

pub visit_list-loop-part-preserved : goal.visit_list-loop-part-preserved
visit_list-loop-part-preserved g t c =
    let l = c.loop-part in
    let parts = c.args.parts.now in
    let after = drop (l.part-index + 1) parts in
    let cut = drop_more parts l.part-index c.part-item.result c.loop-part-test.true ∙ ap (λ n. n ∷ after) (sym c.part-item.is) in
    record {
      callable = c.visit.ensures.callable;
      visited = λ last rest. l.invariant.visited last (rw cut (one_more c.visit.ensures.visited rest));
    }

pub visit_list-returns-clause-visited : goal.visit_list-returns-clause-visited
visit_list-returns-clause-visited g t c =
    let l = c.loop-part in
    l.invariant.visited _ (rw (drop_all l.part-index c.args.parts.now c.loop-part-test.false) no_more)
