-- Each result is a lemma about trees, applied to the values of the call.
use Rattle.std.proofs.Common.{rules, arith, ◌≡◌, ◌+◌, ◌∙◌, true, false, [], take, drop, set, sym, ap, ap₂, subst, refl, length-set}
use Rattle.regress_tree.specs.declared.ir.node.Node.{the_lemmas}
use Rattle.regress_tree.specs.Tree.{Tree, cat, alt, wrapped, no_trees, more_trees, tree, trees}
use Rattle.regress_tree.specs.Copies.{is_leaf}
use Rattle.regress_tree.specs.Held.{body_is_backwards}
use Rattle.regress_tree.specs.Walk.{direction_of}
use Rattle.regress_tree.specs.Units.{units}
use Rattle.regress_tree.specs.Visits.{in_cat, in_alt, in_wrapped, no_more, one_more, after_children}
use Rattle.regress_tree.proofs.lemmas.Nodes.{tree-Cat, tree-Alt}
use Rattle.regress_tree.proofs.lemmas.TreeContexts.{inside_of, direction_inside}
use Rattle.regress_rewrite.specs.Law.{IsPart}
use Rattle.regress_tree.specs.Spine.{spine_length}
use Rattle.regress_tree.proofs.lemmas.Nesting.{out-Cat, out-Alt}
use Rattle.regress_tree.proofs.lemmas.WalkCongruence.{visited_there, inside_there, list_visited_there}
use Rattle.regress_rewrite.proofs.lemmas.Keeps.{IsPart-kept, IsPart-part}
use Rattle.regress_passes.proofs.SweepLemmas.{Traversed-leaf, Traversed-error, Traversed-put, Traversed-walk}
use Rattle.regress_rewrite.proofs.lemmas.Spine.{IsPart-reattach}
use Rattle.regress_passes.proofs.SpineLemmas.{IsPart-down, units_down, nesting_down, down_next, down_last}
use Rattle.regress_rewrite.proofs.lemmas.Parts.{IsPart-at, units_at, unvisited-next}
use Rattle.regress_passes.proofs.PartsLemmas.{parts_next}
use Rattle.regress_tree.specs.Climbs.{further}
use Rattle.regress_passes.specs.Passes.{Applied}
use Rattle.regress_passes.proofs.PassesLemmas.{stays, left_swept, sides_swept, node_swept, list_stays, way_stays, not_returned, list_whole, Inside-as, Traversed-as}
use Rattle.regress_tree.proofs.lemmas.Lists.{append_trees-none}
use Rattle.std.proofs.lemmas.List.{drop_all, take_all}
use Rattle.regress_tree.proofs.lemmas.Visits.{further-inside, further_next, after_down, next_is, visited_next, at_leaf}
use Rattle.regress_passes.proofs.pass.+traverse.Goals.{traverse_alternatives-then-loop-nesting-test+else-rotate_right_spine, traverse_alternatives-else-loop-nesting-test}
use Rattle.regress_passes.proofs.pass.+traverse.Goals as goal

pub traverse_alternatives-traverse-requires : goal.traverse_alternatives-traverse-requires
traverse_alternatives-traverse-requires g t c κs lives =
    let l = c.loop-nesting in
    let shifted = c.if-rotate_right_spine.ensures in
    let node = c.deref_mut.result.now in
    let left = c.in-Some.ensures.left in
    let top_is = left.is ∙ ap (λ n. alt (tree n) left.right) (sym c.deref_mut.ensures.value) in
    let smaller = units_down (tree l.node) (tree l.above) (tree c.rotate_right_spine.new.from) (tree c.rotate_right_spine.new.onto) (tree node) left.right shifted top_is in
    let part = IsPart-down (tree l.node) (tree l.above) (tree c.rotate_right_spine.new.from) (tree c.rotate_right_spine.new.onto) (tree node) left.right shifted top_is _ _
    l.invariant.swept.keeps c.requires.part in
    (omega (arith, smaller, l.invariant.smaller), (search rules, part))

pub traverse_alternatives-loop-nesting-preserved-in-Some : goal.traverse_alternatives-loop-nesting-preserved-in-Some
traverse_alternatives-loop-nesting-preserved-in-Some g t c =
    let l = c.loop-nesting in
    let shifted = c.if-rotate_right_spine.ensures in
    let node = c.deref_mut.result.now in
    let left = c.in-Some.ensures.left in
    let top_is = left.is ∙ ap (λ n. alt (tree n) left.right) (sym c.deref_mut.ensures.value) in
    let ends = rw (c.in-Some.is, left.is) at (c.left_mut.follows.holds (record c.in-Some.left.now { value = c.traverse.new.node })) in
    let nesting : l.nesting + 1 ≡ spine_length (tree c.rotate_right_spine.new.onto) = nesting_down _ (tree l.node) (tree l.above) _ _ shifted l.invariant.nesting in
    let nesting = nesting ∙ ap spine_length top_is in
    let depth = further-inside _ _ c.args.walk.now.depth _ refl c.inside.ensures.depth c.inside.ensures.same in
    let first = visited_there (Applied g.R.Rewrite.step) c.inside.ensures.unicode depth c.inside.ensures.direction c.in_ok-changed.ensures.visited in
    let smaller = units_down (tree l.node) (tree l.above) (tree c.rotate_right_spine.new.from) (tree c.rotate_right_spine.new.onto) (tree node) left.right shifted top_is in
    let here = Traversed-walk _ c.args.walk.now c.inside.result c.inside.ensures.direction c.in_ok-changed.ensures.swept in
    record {
      nesting = rw ends nesting;
      visited = λ t u b e second climbed.
          after_down (Applied g.R.Rewrite.step c.args.walk.now.unicode) (further l.nesting c.args.walk.now.depth) c.args.walk.now.depth
          c.args.walk.now.in_lookbehind (tree l.node) (tree l.above) _ _ (tree node) _ _ shifted top_is
          _ _ b e t u _ (ap (λ k. further k c.args.walk.now.depth) l.invariant.nesting) (λ x m whole rest. l.invariant.visited x u m e whole rest)
          (rw (← further_next l.nesting _ c.args.walk.now.depth refl) at first) (rw (← further_next l.nesting _ c.args.walk.now.depth refl) at second)
          (rw ends at climbed);
      smaller = omega (arith, smaller, l.invariant.smaller);
      swept = rw ends (down_next _ _ g.R.Rewrite.removes _ l.changed _ (tree l.node) (tree l.above) _ _ (tree node) _ _ shifted top_is
          l.invariant.swept here);
    }

pub traverse_alternatives-returns-in_err-changed-clause-swept : goal.traverse_alternatives-returns-in_err-changed-clause-swept
traverse_alternatives-returns-in_err-changed-clause-swept g t c =
    let l = c.loop-nesting in
    let node = c.deref_mut.result.now in
    let left = c.in-Some.ensures.left in
    let top_is = left.is ∙ ap (λ n. alt (tree n) left.right) (sym c.deref_mut.ensures.value) in
    let ends = rw (c.in-Some.is, left.is) at (c.left_mut.follows.holds (record c.in-Some.left.now { value = c.traverse.new.node })) in
    let here = Traversed-walk _ c.args.walk.now c.inside.result c.inside.ensures.direction c.traverse.ensures.swept in
    rw ends
    (Traversed-error _ _ _ c.from_residual.ensures.0 refl
    (down_next _ _ g.R.Rewrite.removes _ l.changed _ (tree l.node) (tree l.above) _ _ (tree node) _ _ c.if-rotate_right_spine.ensures top_is
    l.invariant.swept here))

pub traverse_alternatives-traverse_node-requires : goal.traverse_alternatives-traverse_node-requires
traverse_alternatives-traverse_node-requires g t c κs lives =
    let l = c.loop-nesting in
    let n_is : tree c.loop-nesting-test.node ≡ tree l.node =
    elim c.loop-nesting-test.branch [
      | traverse_alternatives-then-loop-nesting-test+else-rotate_right_spine w ↦ ap tree w.node-is ∙ w.if-rotate_right_spine.ensures.1
      | traverse_alternatives-else-loop-nesting-test w ↦ ap tree w.node-is
    ] in
    let part = IsPart-reattach (tree l.above) (tree l.node) (IsPart-kept _ l.invariant.swept.keeps c.requires.part) in
    let part' = subst (λ (x : Tree). IsPart x) (sym n_is) part in
    (omega (arith, ap units n_is, l.invariant.smaller), (search rules, (part', c.inside-2.ensures.children)))

pub traverse_alternatives-returns-in_err-traverse_node-clause-swept : goal.traverse_alternatives-returns-in_err-traverse_node-clause-swept
traverse_alternatives-returns-in_err-traverse_node-clause-swept g t c =
    let l = c.loop-nesting in
    let n_is : tree c.loop-nesting-test.node ≡ tree l.node =
    elim c.loop-nesting-test.branch [
      | traverse_alternatives-then-loop-nesting-test+else-rotate_right_spine w ↦ ap tree w.node-is ∙ w.if-rotate_right_spine.ensures.1
      | traverse_alternatives-else-loop-nesting-test w ↦ ap tree w.node-is
    ] in
    let above_is : tree c.loop-nesting-test.above ≡ tree l.above =
    elim c.loop-nesting-test.branch [
      | traverse_alternatives-then-loop-nesting-test+else-rotate_right_spine w ↦ ap tree w.above-is ∙ w.if-rotate_right_spine.ensures.2
      | traverse_alternatives-else-loop-nesting-test w ↦ ap tree w.above-is
    ] in
    let here = Traversed-walk _ c.args.walk.now c.inside-2.result c.inside-2.ensures.direction c.traverse_node.ensures.swept in
    Traversed-error _ _ _ c.from_residual-in_err-traverse_node.ensures.0 refl
    (down_last _ _ g.R.Rewrite.removes _ l.changed _ (tree c.loop-nesting-test.above) _ _ (rw (n_is, above_is) l.invariant.swept) here)

pub traverse_alternatives-returns-clause-swept : goal.traverse_alternatives-returns-clause-swept
traverse_alternatives-returns-clause-swept g t c =
    let l = c.loop-nesting in
    let n_is : tree c.loop-nesting-test.node ≡ tree l.node =
    elim c.loop-nesting-test.branch [
      | traverse_alternatives-then-loop-nesting-test+else-rotate_right_spine w ↦ ap tree w.node-is ∙ w.if-rotate_right_spine.ensures.1
      | traverse_alternatives-else-loop-nesting-test w ↦ ap tree w.node-is
    ] in
    let above_is : tree c.loop-nesting-test.above ≡ tree l.above =
    elim c.loop-nesting-test.branch [
      | traverse_alternatives-then-loop-nesting-test+else-rotate_right_spine w ↦ ap tree w.above-is ∙ w.if-rotate_right_spine.ensures.2
      | traverse_alternatives-else-loop-nesting-test w ↦ ap tree w.above-is
    ] in
    let here = Traversed-walk _ c.args.walk.now c.inside-2.result c.inside-2.ensures.direction c.in_ok-traverse_node.ensures.swept in
    down_last _ _ g.R.Rewrite.removes _ l.changed _ (tree c.loop-nesting-test.above) _ _ (rw (n_is, above_is) l.invariant.swept) here

pub traverse_parts-traverse-requires : goal.traverse_parts-traverse-requires
traverse_parts-traverse-requires g t c κs lives =
    let l = c.loop-i in
    let node = c.index_mut.result.now in
    let part = IsPart-at l.parts.items l.i (search rules) node c.index_mut.ensures.value _ _ l.invariant.swept.keeps c.requires in
    let smaller = units_at l.parts.items l.i (search rules) node c.index_mut.ensures.value c.args.parts.now.items l.invariant.unvisited in
    (omega (arith, smaller), (search rules, part))

pub traverse_parts-returns-in_err-changed-clause-swept : goal.traverse_parts-returns-in_err-changed-clause-swept
traverse_parts-returns-in_err-changed-clause-swept g t c =
    let l = c.loop-i in
    let node = c.index_mut.result.now in
    Traversed-error _ _ _ c.from_residual.ensures.0 refl
    (parts_next l.parts.items l.i (search rules) node c.index_mut.ensures.value g.R.Rewrite.removes _ _ c.args.parts.now.items l.changed
    c.traverse.new.node _ l.invariant.swept c.traverse.ensures.swept)

pub traverse_parts-loop-i-preserved : goal.traverse_parts-loop-i-preserved
traverse_parts-loop-i-preserved g t c =
    let l = c.loop-i in
    let node = c.index_mut.result.now in
    let old = c.args.parts.now.items in
    record {
      length = length-set l.parts.items l.i c.traverse.new.node ∙ l.invariant.length;
      unvisited = unvisited-next l.parts.items old l.i c.traverse.new.node l.invariant.unvisited;
      visited = λ ts b rest.
          rw (visited_next l.parts.items old l.i (search rules) node c.index_mut.ensures.value l.invariant.unvisited c.traverse.new.node ts)
          (l.invariant.visited _ b
          (rw (next_is l.parts.items old l.i (search rules) node c.index_mut.ensures.value l.invariant.unvisited)
          (one_more c.in_ok-changed.ensures.visited rest)));
      swept = parts_next l.parts.items l.i (search rules) node c.index_mut.ensures.value g.R.Rewrite.removes _ _ old l.changed
          c.traverse.new.node _ l.invariant.swept c.in_ok-changed.ensures.swept;
    }

pub traverse_children-returns-in-Cat-clause-visited : goal.traverse_children-returns-in-Cat-clause-visited
traverse_children-returns-in-Cat-clause-visited g t c =
    let inner = c.walk_inside-inner.ensures in
    let parts = c.in-Cat.parts in
    let is : tree c.args.node.now ≡ cat (trees parts.items) = ap tree c.in-Cat.is ∙ tree-Cat parts in
    let same : c.walk_inside-inner.result.in_lookbehind ≡ c.args.walk.now.in_lookbehind =
    inner.direction ∙ ap (λ (t : Tree). body_is_backwards t c.args.walk.now.in_lookbehind) is in
    let given = ap (λ ps. cat (trees ps.items)) c.in-Cat.parts-is ∙ sym is in
    let visited = list_visited_there (Applied g.R.Rewrite.step) inner.unicode inner.depth same c.traverse_parts.ensures.visited in
    Inside-as given (rw (c.in-Cat.is, out-Cat) (sym (tree-Cat c.traverse_parts.new.parts))) (in_cat visited)

pub traverse_children-returns-in-Cat-clause-swept : goal.traverse_children-returns-in-Cat-clause-swept
traverse_children-returns-in-Cat-clause-swept g t c =
    let inner = c.walk_inside-inner.ensures in
    let parts = c.in-Cat.parts in
    let is : tree c.args.node.now ≡ cat (trees parts.items) = ap tree c.in-Cat.is ∙ tree-Cat parts in
    let same : c.walk_inside-inner.result.in_lookbehind ≡ c.args.walk.now.in_lookbehind =
    inner.direction ∙ ap (λ (t : Tree). body_is_backwards t c.args.walk.now.in_lookbehind) is in
    let given = ap (λ ps. cat (trees ps.items)) c.in-Cat.parts-is ∙ sym is in
    Traversed-walk _ c.args.walk.now c.walk_inside-inner.result same
    (Traversed-as given (rw (c.in-Cat.is, out-Cat) (sym (tree-Cat c.traverse_parts.new.parts))) g.R.Rewrite.removes c.traverse_parts.ensures.swept)

pub traverse_children-traverse_parts-requires : goal.traverse_children-traverse_parts-requires
traverse_children-traverse_parts-requires g t c κs lives =
    let parts = c.in-Cat.parts in
    let is : tree c.args.node.now ≡ cat (trees parts.items) = ap tree c.in-Cat.is ∙ tree-Cat parts in
    let given = ap (λ ps. cat (trees ps.items)) c.in-Cat.parts-is ∙ sym is in
    let fewer = ap units given in
    let part = rw (← given) at c.requires in
    (omega (arith, fewer), (search rules, part))

pub traverse_children-returns-in-Alt-clause-visited : goal.traverse_children-returns-in-Alt-clause-visited
traverse_children-returns-in-Alt-clause-visited g t c =
    let at = c.in-Alt in
    let inner = c.walk_inside-inner.ensures in
    let is : tree c.args.node.now ≡ alt (tree at.left.value) (tree at.right.value) = ap tree at.is ∙ tree-Alt at.left at.right in
    let same : c.walk_inside-inner.result.in_lookbehind ≡ c.args.walk.now.in_lookbehind =
    inner.direction ∙ ap (λ (t : Tree). body_is_backwards t c.args.walk.now.in_lookbehind) is in
    let left : c.deref_mut.result.now ≡ at.left.value = rw (at.is, out-Alt) at c.deref_mut.ensures.value in
    let right : c.deref_mut-in-Alt.result.now ≡ at.right.value = rw (at.is, out-Alt) at c.deref_mut-in-Alt.ensures.value in
    let given = ap₂ alt (ap tree left) (ap tree right) ∙ sym is in
    let visited = inside_there (Applied g.R.Rewrite.step) inner.unicode refl same (c.traverse_sides.ensures.visited c.args.walk.now.depth inner.depth) in
    Inside-as given (rw (at.is, out-Alt) (sym (tree-Alt (record at.left { value = c.traverse_sides.new.left }) (record at.right { value = c.traverse_sides.new.right })))) visited

pub traverse_children-returns-in-Alt-clause-swept : goal.traverse_children-returns-in-Alt-clause-swept
traverse_children-returns-in-Alt-clause-swept g t c =
    let at = c.in-Alt in
    let inner = c.walk_inside-inner.ensures in
    let is : tree c.args.node.now ≡ alt (tree at.left.value) (tree at.right.value) = ap tree at.is ∙ tree-Alt at.left at.right in
    let same : c.walk_inside-inner.result.in_lookbehind ≡ c.args.walk.now.in_lookbehind =
    inner.direction ∙ ap (λ (t : Tree). body_is_backwards t c.args.walk.now.in_lookbehind) is in
    let left : c.deref_mut.result.now ≡ at.left.value = rw (at.is, out-Alt) at c.deref_mut.ensures.value in
    let right : c.deref_mut-in-Alt.result.now ≡ at.right.value = rw (at.is, out-Alt) at c.deref_mut-in-Alt.ensures.value in
    let given = ap₂ alt (ap tree left) (ap tree right) ∙ sym is in
    Traversed-walk _ c.args.walk.now c.walk_inside-inner.result same
    (Traversed-as given (rw (at.is, out-Alt) (sym (tree-Alt (record at.left { value = c.traverse_sides.new.left }) (record at.right { value = c.traverse_sides.new.right })))) g.R.Rewrite.removes c.traverse_sides.ensures.swept)

pub traverse_children-traverse-requires : goal.traverse_children-traverse-requires
traverse_children-traverse-requires g t c κs lives =
    let around = c.in-Some.ensures.body in
    let value = c.deref_mut-in-Some.ensures.value in
    let whole : IsPart (wrapped around.wrapper (tree c.in-Some.body.now.value)) = rw around.is at c.requires in
    let part = rw (← value) at (IsPart-part (inside_of around.wrapper) (tree c.in-Some.body.now.value) whole) in
    let fewer = ap units around.is in
    let body = ap (λ n. units (tree n)) value in
    (omega (arith, fewer, body), (search rules, part))

pub traverse_children-returns-in-Some-clause-visited : goal.traverse_children-returns-in-Some-clause-visited
traverse_children-returns-in-Some-clause-visited g t c =
    let inner = c.walk_inside-inner.ensures in
    let around = c.in-Some.ensures.body in
    let turned = rw around.is at inner.direction in
    let value = c.deref_mut-in-Some.ensures.value in
    let new = record c.in-Some.body.now { value = c.traverse.new.node } in
    let ends = rw (c.in-Some.is, around.is) at (c.body_mut.follows.holds new) in
    rw (ends, around.is) (in_wrapped (rw value at (visited_there (Applied g.R.Rewrite.step) inner.unicode inner.depth turned c.traverse.ensures.visited)))

pub traverse_children-returns-in-Some-clause-swept : goal.traverse_children-returns-in-Some-clause-swept
traverse_children-returns-in-Some-clause-swept g t c =
    let around = c.in-Some.ensures.body in
    let turned = rw around.is at c.walk_inside-inner.ensures.direction in
    let towards = direction_inside around.wrapper c.args.walk.now c.walk_inside-inner.result turned in
    let value = c.deref_mut-in-Some.ensures.value in
    let new = record c.in-Some.body.now { value = c.traverse.new.node } in
    let ends = rw (c.in-Some.is, around.is) at (c.body_mut.follows.holds new) in
    rw (ends, around.is) (Traversed-put _ (inside_of around.wrapper) (direction_of c.args.walk.now) (rw (value, towards) at c.traverse.ensures.swept))

pub traverse_children-returns-in-None : goal.traverse_children-returns-in-None
traverse_children-returns-in-None g t c =
    let no_body = c.in-None.ensures.body in
    let holds_none : is_leaf (tree c.args.node.now) ≡ true = first_of (search (rules, the_lemmas), grind (arith, the_lemmas)) in
    let stays : tree c.body_mut.follows.lender-at-none ≡ tree c.args.node.now = c.body_mut.follows.holds-at-none in
    rw stays (record {
      visited = at_leaf _ (tree c.args.node.now) holds_none;
      swept = Traversed-leaf _ g.R.Rewrite.removes (direction_of c.args.walk.now) (tree c.args.node.now) holds_none;
    })

pub traverse_parts-returns-clause-visited : goal.traverse_parts-returns-clause-visited
traverse_parts-returns-clause-visited g t c =
    let l = c.loop-i in
    let old = c.args.parts.now.items in
    let done : drop l.i old ≡ [] = drop_all l.i old (search rules) in
    let all : take l.i l.parts.items ≡ l.parts.items = take_all l.i l.parts.items (search rules) in
    let whole = l.invariant.visited no_trees (l.pass, true) (rw done no_more) in
    rw (all, append_trees-none) at whole

pub traverse-returns-in-Err-clause-visited : goal.traverse-returns-in-Err-clause-visited
traverse-returns-in-Err-clause-visited g t c =
    rw c.restore_spine.ensures
    (c.in-Err.ensures.visited _ _ (way_stays g.R.Rewrite.step c.args.walk.now.unicode (tree c.traverse_alternatives.new.above) (tree c.traverse_alternatives.new.node)
    c.args.walk.now.depth c.args.walk.now.in_lookbehind c.traverse_alternatives.new.pass))

pub traverse_sides-returns-clause-swept : goal.traverse_sides-returns-clause-swept
traverse_sides-returns-clause-swept g t c =
    sides_swept _ _ g.R.Rewrite.removes _ _ _ _ _ _ c.in_ok-changed.ensures.swept c.in_ok-traverse.ensures.swept

pub traverse_sides-returns-clause-visited : goal.traverse_sides-returns-clause-visited
traverse_sides-returns-clause-visited g t c depth is =
    in_alt (rw is at c.in_ok-changed.ensures.visited) (rw is at c.in_ok-traverse.ensures.visited)

pub traverse_node-returns-clause-swept : goal.traverse_node-returns-clause-swept
traverse_node-returns-clause-swept g t c =
    node_swept _ _ g.R.Rewrite.removes _ _ _ _ _ c.in_ok-changed.ensures.swept c.in_ok-rewrite.ensures.swept

pub traverse_node-returns-clause-visited : goal.traverse_node-returns-clause-visited
traverse_node-returns-clause-visited g t c =
    after_children {skip = false} c.in_ok-changed.ensures.visited (c.in_ok-rewrite.ensures.applied false)

pub traverse_node-returns-in_err-changed-clause-visited : goal.traverse_node-returns-in_err-changed-clause-visited
traverse_node-returns-in_err-changed-clause-visited g t c =
    rw (not_returned _ c.from_residual.ensures.0) (after_children {skip = false} c.in_err-changed.ensures.visited (refl, refl, refl))

pub traverse_node-returns-in_err-rewrite-clause-visited : goal.traverse_node-returns-in_err-rewrite-clause-visited
traverse_node-returns-in_err-rewrite-clause-visited g t c =
    rw (not_returned _ c.from_residual-in_err-rewrite.ensures.0)
    (after_children {skip = false} c.in_ok-changed.ensures.visited (c.in_err-rewrite.ensures.applied false))

pub traverse_sides-returns-in_err-changed-clause-visited : goal.traverse_sides-returns-in_err-changed-clause-visited
traverse_sides-returns-in_err-changed-clause-visited g t c depth is =
    rw (not_returned _ c.from_residual.ensures.0)
    (in_alt (rw is at c.in_err-changed.ensures.visited) (stays g.R.Rewrite.step c.args.walk.now.unicode _ _ _ _))

pub traverse_sides-returns-in_err-changed-clause-swept : goal.traverse_sides-returns-in_err-changed-clause-swept
traverse_sides-returns-in_err-changed-clause-swept g t c =
    Traversed-error _ _ _ c.from_residual.ensures.0 refl
    (left_swept _ _ g.R.Rewrite.removes (tree c.args.left.now) (tree c.traverse.new.node) (tree c.args.right.now) false c.traverse.ensures.swept)

pub traverse_sides-returns-in_err-traverse-clause-visited : goal.traverse_sides-returns-in_err-traverse-clause-visited
traverse_sides-returns-in_err-traverse-clause-visited g t c depth is =
    rw (not_returned _ c.from_residual-in_err-traverse.ensures.0)
    (in_alt (rw is at c.in_ok-changed.ensures.visited) (rw is at c.in_err-traverse.ensures.visited))

pub traverse_sides-returns-in_err-traverse-clause-swept : goal.traverse_sides-returns-in_err-traverse-clause-swept
traverse_sides-returns-in_err-traverse-clause-swept g t c =
    Traversed-error _ _ _ c.from_residual-in_err-traverse.ensures.0 refl
    (sides_swept _ _ g.R.Rewrite.removes _ _ _ _ _ _ c.in_ok-changed.ensures.swept c.traverse-2.ensures.swept)

pub traverse_parts-returns-in_err-changed-clause-visited : goal.traverse_parts-returns-in_err-changed-clause-visited
traverse_parts-returns-in_err-changed-clause-visited g t c =
    let l = c.loop-i in
    let old = c.args.parts.now.items in
    let new = c.traverse.new.node in
    let found = c.index_mut.ensures.value in
    let rest = trees (drop (l.i + 1) old) in
    let unvisited = unvisited-next l.parts.items old l.i new l.invariant.unvisited in
    let stay = list_stays g.R.Rewrite.step c.args.walk.now.unicode rest c.args.walk.now.depth c.args.walk.now.in_lookbehind c.traverse.new.pass in
    rw (
      not_returned _ c.from_residual.ensures.0,
      list_whole (set l.parts.items l.i new) old (l.i + 1) unvisited,
      visited_next l.parts.items old l.i (search rules) c.index_mut.result.now found l.invariant.unvisited new rest,
    )
    (l.invariant.visited (more_trees (tree new) rest) (c.traverse.new.pass, false)
    (rw (next_is l.parts.items old l.i (search rules) c.index_mut.result.now found l.invariant.unvisited)
    (one_more c.in_err-changed.ensures.visited stay)))

pub traverse_alternatives-returns-in_err-changed-clause-visited : goal.traverse_alternatives-returns-in_err-changed-clause-visited
traverse_alternatives-returns-in_err-changed-clause-visited g t c u b climbed =
    let l = c.loop-nesting in
    let shifted = c.if-rotate_right_spine.ensures in
    let node = c.deref_mut.result.now in
    let left = c.in-Some.ensures.left in
    let top_is = left.is ∙ ap (λ n. alt (tree n) left.right) (sym c.deref_mut.ensures.value) in
    let ends = rw (c.in-Some.is, left.is) at (c.left_mut.follows.holds (record c.in-Some.left.now { value = c.traverse.new.node })) in
    let depth = further-inside _ _ c.args.walk.now.depth _ refl c.inside.ensures.depth c.inside.ensures.same in
    let first = visited_there (Applied g.R.Rewrite.step) c.inside.ensures.unicode depth c.inside.ensures.direction c.in_err-changed.ensures.visited in
    after_down (Applied g.R.Rewrite.step c.args.walk.now.unicode) (further l.nesting c.args.walk.now.depth) c.args.walk.now.depth
    c.args.walk.now.in_lookbehind (tree l.node) (tree l.above) _ _ (tree node) _ _ shifted top_is
    _ _ _ b _ u _ (ap (λ k. further k c.args.walk.now.depth) l.invariant.nesting) (λ x m whole rest. l.invariant.visited x u m b whole rest)
    (rw (← further_next l.nesting _ c.args.walk.now.depth refl) at first) (stays g.R.Rewrite.step c.args.walk.now.unicode _ _ _ _)
    (rw (ends, not_returned _ c.from_residual.ensures.0) at climbed)

pub traverse_alternatives-returns-in_err-traverse_node-clause-visited : goal.traverse_alternatives-returns-in_err-traverse_node-clause-visited
traverse_alternatives-returns-in_err-traverse_node-clause-visited g t c u b climbed =
    let l = c.loop-nesting in
    let n_is : tree c.loop-nesting-test.node ≡ tree l.node =
    elim c.loop-nesting-test.branch [
      | traverse_alternatives-then-loop-nesting-test+else-rotate_right_spine w ↦ ap tree w.node-is ∙ w.if-rotate_right_spine.ensures.1
      | traverse_alternatives-else-loop-nesting-test w ↦ ap tree w.node-is
    ] in
    let above_is : tree c.loop-nesting-test.above ≡ tree l.above =
    elim c.loop-nesting-test.branch [
      | traverse_alternatives-then-loop-nesting-test+else-rotate_right_spine w ↦ ap tree w.above-is ∙ w.if-rotate_right_spine.ensures.2
      | traverse_alternatives-else-loop-nesting-test w ↦ ap tree w.above-is
    ] in
    let inner = c.inside-2.ensures in
    let depth = further-inside _ _ c.args.walk.now.depth _ refl inner.depth inner.same in
    let last = rw n_is at (visited_there (Applied g.R.Rewrite.step) inner.unicode depth inner.direction c.in_err-traverse_node.ensures.visited) in
    l.invariant.visited (tree c.traverse_node.new.node) u (c.traverse_node.new.pass, false) b last
    (rw (above_is, not_returned _ c.from_residual-in_err-traverse_node.ensures.0) at climbed)

pub traverse_alternatives-returns-clause-visited : goal.traverse_alternatives-returns-clause-visited
traverse_alternatives-returns-clause-visited g t c u b climbed =
    let l = c.loop-nesting in
    let n_is : tree c.loop-nesting-test.node ≡ tree l.node =
    elim c.loop-nesting-test.branch [
      | traverse_alternatives-then-loop-nesting-test+else-rotate_right_spine w ↦ ap tree w.node-is ∙ w.if-rotate_right_spine.ensures.1
      | traverse_alternatives-else-loop-nesting-test w ↦ ap tree w.node-is
    ] in
    let above_is : tree c.loop-nesting-test.above ≡ tree l.above =
    elim c.loop-nesting-test.branch [
      | traverse_alternatives-then-loop-nesting-test+else-rotate_right_spine w ↦ ap tree w.above-is ∙ w.if-rotate_right_spine.ensures.2
      | traverse_alternatives-else-loop-nesting-test w ↦ ap tree w.above-is
    ] in
    let inner = c.inside-2.ensures in
    let depth = further-inside _ _ c.args.walk.now.depth _ refl inner.depth inner.same in
    let last = rw n_is at (visited_there (Applied g.R.Rewrite.step) inner.unicode depth inner.direction c.in_ok-traverse_node.ensures.visited) in
    l.invariant.visited (tree c.traverse_node.new.node) u (c.traverse_node.new.pass, true) b last (rw above_is at climbed)
