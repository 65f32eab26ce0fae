-- The visits of a node are composed of those of its calls.
use Rattle.std.proofs.Common.{ℕ, Bool, Vec, Global, rules, arith, refl, ◌∙◌, ap, ap₂, ◌≡◌, true, false, sym, length-set, [], take, drop}
use Rattle.std.proofs.lemmas.List.{drop_all, take_all}
use Rattle.regress_tree.proofs.lemmas.Lists.{append_trees-none}
use Rattle.regress_tree.specs.declared.ir.node.Node.{Node}
use Rattle.regress_tree.specs.Tree.{Tree, cat, alt, tree, trees, no_trees}
use Rattle.regress_tree.specs.Visits.{CallsMut, nodes, Visited, Inside, before_children, without_children, after_children, in_cat, in_alt, in_wrapped, no_more, one_more}
use Rattle.regress_tree.specs.Held.{body_is_backwards}
use Rattle.regress_tree.specs.Climbs.{further}
use Rattle.regress_tree.proofs.lemmas.Nodes.{tree-Cat, tree-Alt, leaf_of}
use Rattle.regress_tree.proofs.lemmas.Nesting.{out-Cat, out-Alt}
use Rattle.regress_tree.proofs.lemmas.Visits.{at_leaf, further_next, nodes_down, nesting_down, before_down, after_down, call_adds, next_is, nodes_next, unvisited_next, visited_next}
use Rattle.regress_tree.proofs.lemmas.WalkCongruence.{called_there, visited_there, inside_there, list_visited_there}
use Rattle.regress_tree.proofs.ir.visit_mut.+visit_mut.Goals.{visit_before-else-loop-here-test, visit_before-then-loop-here-test+then-not-rotate_right_spine, visit_after-then-loop-nesting-test+else-rotate_right_spine, visit_after-else-loop-nesting-test}
use Rattle.regress_tree.proofs.ir.visit_mut.+visit_mut.Goals as goal

-- a visit of the children of a node, transferred to equal trees
Inside-as : {State : Type 0} {Call : State → Tree → ℕ → Bool → State → Tree → Bool → Type 0} {p : Bool} {d : ℕ} {lookbehind : Bool} {a b : State}
    {t u v w : Tree} → t ≡ v → u ≡ w → Inside Call p d lookbehind t u a b → Inside Call p d lookbehind v w a b
Inside-as t_is u_is inside = rw (t_is, u_is) at inside

pub visit_inside-visit_list-requires : goal.visit_inside-visit_list-requires
visit_inside-visit_list-requires g t c κs lives =
    let parts = c.in-Cat.parts in
    let is : tree c.args.n.now ≡ cat (trees parts.items) = ap tree c.in-Cat.is ∙ tree-Cat parts in
    let given = ap (λ (ps : Vec Node Global). cat (trees ps.items)) c.in-Cat.parts-is ∙ sym is in
    (omega (arith, ap nodes given), search rules)

pub visit_inside-returns-in-Cat-clause-visited : goal.visit_inside-returns-in-Cat-clause-visited
visit_inside-returns-in-Cat-clause-visited g t c =
    let inner = c.walk_inside-inner.ensures in
    let parts = c.in-Cat.parts in
    let is : tree c.args.n.now ≡ cat (trees parts.items) = ap tree c.in-Cat.is ∙ tree-Cat parts in
    let given = ap (λ (ps : Vec Node Global). cat (trees ps.items)) c.in-Cat.parts-is ∙ sym is in
    let same : c.walk_inside-inner.result.in_lookbehind ≡ c.args.walk.now.in_lookbehind =
    inner.direction ∙ ap (λ (t : Tree). body_is_backwards t c.args.walk.now.in_lookbehind) is in
    let visited = list_visited_there (CallsMut (goal.F-step g)) inner.unicode inner.depth same c.visit_list.ensures.visited in
    Inside-as given (rw (c.in-Cat.is, out-Cat) (sym (tree-Cat c.visit_list.new.parts))) (in_cat visited)

pub visit_inside-visit_mut-requires : goal.visit_inside-visit_mut-requires
visit_inside-visit_mut-requires g t c κs lives =
    let at = c.in-Alt in
    let is : tree c.args.n.now ≡ alt (tree at.left.value) (tree at.right.value) = ap tree at.is ∙ tree-Alt at.left at.right in
    let left : c.deref_mut.result.now ≡ at.left.value = rw (at.is, out-Alt) at c.deref_mut.ensures.value in
    (omega (arith, ap nodes is, ap (λ (n : Node). nodes (tree n)) left), search rules)

pub visit_inside-visit_mut-requires-in-Alt : goal.visit_inside-visit_mut-requires-in-Alt
visit_inside-visit_mut-requires-in-Alt g t c κs lives =
    let at = c.in-Alt in
    let is : tree c.args.n.now ≡ alt (tree at.left.value) (tree at.right.value) = ap tree at.is ∙ tree-Alt at.left at.right in
    let right : c.deref_mut-in-Alt.result.now ≡ at.right.value = rw (at.is, out-Alt) at c.deref_mut-in-Alt.ensures.value in
    (omega (arith, ap nodes is, ap (λ (n : Node). nodes (tree n)) right), search rules)

pub visit_inside-returns-in-Alt-clause-visited : goal.visit_inside-returns-in-Alt-clause-visited
visit_inside-returns-in-Alt-clause-visited g t c =
    let inner = c.walk_inside-inner.ensures in
    let at = c.in-Alt in
    let is : tree c.args.n.now ≡ alt (tree at.left.value) (tree at.right.value) = ap tree at.is ∙ tree-Alt at.left at.right in
    let same : c.walk_inside-inner.result.in_lookbehind ≡ c.args.walk.now.in_lookbehind =
    inner.direction ∙ ap (λ (t : Tree). body_is_backwards t c.args.walk.now.in_lookbehind) is in
    let left : c.deref_mut.result.now ≡ at.left.value = rw (at.is, out-Alt) at c.deref_mut.ensures.value in
    let right : c.deref_mut-in-Alt.result.now ≡ at.right.value = rw (at.is, out-Alt) at c.deref_mut-in-Alt.ensures.value in
    let first = visited_there (CallsMut (goal.F-step g)) inner.unicode inner.depth same c.visit_mut.ensures.visited in
    let second = visited_there (CallsMut (goal.F-step g)) inner.unicode inner.depth same c.visit_mut-in-Alt.ensures.visited in
    Inside-as (ap₂ alt (ap tree left) (ap tree right) ∙ sym is)
    (rw (at.is, out-Alt) (sym (tree-Alt (record at.left { value = c.visit_mut.new.n }) (record at.right { value = c.visit_mut-in-Alt.new.n }))))
    (in_alt first second)

pub visit_inside-visit_mut-requires-in-Some : goal.visit_inside-visit_mut-requires-in-Some
visit_inside-visit_mut-requires-in-Some g t c κs lives =
    let whole = ap nodes c.in-Some.ensures.body.is in
    let body = ap (λ n. nodes (tree n)) c.deref_mut-in-Some.ensures.value in
    (omega (arith, whole, body), search rules)

pub visit_inside-returns-in-Some-clause-visited : goal.visit_inside-returns-in-Some-clause-visited
visit_inside-returns-in-Some-clause-visited g t c =
    let inner = c.walk_inside-inner.ensures in
    let around = c.in-Some.ensures.body in
    let turned = rw around.is at inner.direction in
    let value = c.deref_mut-in-Some.ensures.value in
    let new = record c.in-Some.body.now { value = c.visit_mut-in-Some.new.n } in
    let ends = rw (c.in-Some.is, around.is) at (c.body_mut.follows.holds new) in
    rw (ends, around.is) (in_wrapped (rw value at (visited_there (CallsMut (goal.F-step g)) inner.unicode inner.depth turned
    c.visit_mut-in-Some.ensures.visited)))

pub visit_inside-returns-in_default-body_mut : goal.visit_inside-returns-in_default-body_mut
visit_inside-returns-in_default-body_mut g t c =
    let holds_none = leaf_of c.args.n.now c.in_default.not-Cat c.in_default.not-Alt c.in_default-body_mut.ensures.body in
    let stays : tree c.body_mut.follows.lender-at-none ≡ tree c.args.n.now = c.body_mut.follows.holds-at-none in
    record { callable = c.requires.callable; visited = rw stays (at_leaf _ (tree c.args.n.now) holds_none) }

pub visit_before-loop-here-preserved-in-Some : goal.visit_before-loop-here-preserved-in-Some
visit_before-loop-here-preserved-in-Some g t c =
    let l = c.loop-here in
    let walk = c.args.walk.now in
    let Call = CallsMut (goal.F-step g) walk.unicode in
    let so_far = l.invariant in
    let here = c.inside-here.ensures in
    let shifted = c.if-not-rotate_right_spine.ensures in
    let node = c.deref_mut.result.now in
    let left = c.in-Some.ensures.left in
    let top_is = left.is ∙ ap (λ n. alt (tree n) left.right) (sym c.deref_mut.ensures.value) in
    let ends = rw (c.in-Some.is, left.is) at (c.left_mut.follows.holds (record c.in-Some.left.now { value = c.visit_mut.new.n })) in
    let called = called_there (CallsMut (goal.F-step g)) so_far.unicode refl so_far.direction c.loop-here-test.ensures.called in
    let first = visited_there (CallsMut (goal.F-step g)) (here.unicode ∙ so_far.unicode) here.depth (here.direction ∙ so_far.direction)
    c.visit_mut.ensures.visited in
    let fewer = nodes_down Call l.here.depth 0 walk.in_lookbehind (tree c.call.new.n) (tree l.above) (tree c.rotate_right_spine.new.from) (tree c.rotate_right_spine.new.onto)
    (tree node) (tree node) left.right shifted top_is in
    let no_more = call_adds (goal.F-step g) _ _ _ _ _ _ _ _ c.requires.ends called in
    record {
      callable = c.visit_mut.ensures.callable;
      smaller = omega (arith, fewer, no_more, so_far.smaller);
      direction = here.direction ∙ so_far.direction;
      unicode = here.unicode ∙ so_far.unicode;
      visited = λ u e second.
          rw ends
          (before_down Call l.here.depth 0 walk.in_lookbehind (tree c.call.new.n) (tree l.above) (tree c.rotate_right_spine.new.from) (tree c.rotate_right_spine.new.onto) (tree node)
          (tree c.visit_mut.new.n) left.right shifted top_is (tree l.n) l.func c.call.new.func c.visit_mut.new.func e u
          (λ v. Visited Call false walk.depth walk.in_lookbehind (tree c.args.n.now) v c.args.func.now e) (λ v whole. so_far.visited v e whole) called first
          (rw here.depth at second));
    }

pub visit_before-returns-clause-visited : goal.visit_before-returns-clause-visited
visit_before-returns-clause-visited g t c =
    let so_far = c.loop-here.invariant in
    rw c.restore_spine.ensures
    (elim c.loop-here-test.branch [
      | visit_before-else-loop-here-test w ↦
          let called = called_there (CallsMut (goal.F-step g)) so_far.unicode refl so_far.direction w.loop-here-test.ensures.called in
          rw (w.n-is, w.func-is, w.above-is) (so_far.visited _ _ (without_children called))
      | visit_before-then-loop-here-test+then-not-rotate_right_spine w ↦
          let stays = w.if-not-rotate_right_spine.ensures in
          let called = called_there (CallsMut (goal.F-step g)) so_far.unicode refl so_far.direction w.loop-here-test.ensures.called in
          let inside = rw stays.1 at (inside_there (CallsMut (goal.F-step g)) so_far.unicode refl so_far.direction w.visit_inside.ensures.visited) in
          rw (w.n-is, w.func-is, w.above-is, stays.2) (so_far.visited _ _ (before_children called inside))
    ])

pub visit_after-loop-nesting-preserved-in-Some : goal.visit_after-loop-nesting-preserved-in-Some
visit_after-loop-nesting-preserved-in-Some g t c =
    let l = c.loop-nesting in
    let walk = c.args.walk.now in
    let Call = CallsMut (goal.F-step g) walk.unicode in
    let so_far = l.invariant in
    let here = c.inside-here.ensures in
    let shifted = c.if-rotate_right_spine.ensures in
    let node = c.deref_mut.result.now in
    let left = c.in-Some.ensures.left in
    let top_is = left.is ∙ ap (λ n. alt (tree n) left.right) (sym c.deref_mut.ensures.value) in
    let ends = rw (c.in-Some.is, left.is) at (c.left_mut.follows.holds (record c.in-Some.left.now { value = c.visit_mut.new.n })) in
    let first = visited_there (CallsMut (goal.F-step g)) (here.unicode ∙ so_far.unicode) here.depth (here.direction ∙ so_far.direction)
    c.visit_mut.ensures.visited in
    let depth = so_far.depth ∙ ap (λ k. further k walk.depth) so_far.nesting in
    let fewer = nodes_down Call l.here.depth walk.depth walk.in_lookbehind (tree l.n) (tree l.above) (tree c.rotate_right_spine.new.from) (tree c.rotate_right_spine.new.onto)
    (tree node) (tree node) left.right shifted top_is in
    record {
      callable = c.visit_mut.ensures.callable;
      smaller = omega (arith, fewer, so_far.smaller);
      nesting = rw ends (nesting_down Call l.here.depth walk.depth walk.in_lookbehind (tree l.n) (tree l.above) (tree c.rotate_right_spine.new.from)
          (tree c.rotate_right_spine.new.onto) (tree node) (tree node) left.right shifted top_is
          l.nesting so_far.nesting);
      depth = here.depth ∙ further_next l.nesting l.here.depth walk.depth so_far.depth;
      direction = here.direction ∙ so_far.direction;
      unicode = here.unicode ∙ so_far.unicode;
      visited = λ u v m e second climbed.
          let ways = rw ends at climbed in
          after_down Call l.here.depth walk.depth walk.in_lookbehind (tree l.n) (tree l.above) (tree c.rotate_right_spine.new.from) (tree c.rotate_right_spine.new.onto) (tree node)
          (tree c.visit_mut.new.n) left.right shifted top_is l.func c.visit_mut.new.func m e u v
          (Visited Call true walk.depth walk.in_lookbehind (tree c.args.n.now) v c.args.func.now e) depth
          (λ x b whole rest. so_far.visited x v b e whole rest) first (rw here.depth at second) ways;
    }

pub visit_after-returns-clause-visited : goal.visit_after-returns-clause-visited
visit_after-returns-clause-visited g t c =
    let l = c.loop-nesting in
    let so_far = l.invariant in
    let n_is : tree c.loop-nesting-test.n ≡ tree l.n =
    elim c.loop-nesting-test.branch [
      | visit_after-then-loop-nesting-test+else-rotate_right_spine w ↦ ap tree w.n-is ∙ w.if-rotate_right_spine.ensures.1
      | visit_after-else-loop-nesting-test w ↦ ap tree w.n-is
    ] in
    let above_is : tree c.loop-nesting-test.above ≡ tree l.above =
    elim c.loop-nesting-test.branch [
      | visit_after-then-loop-nesting-test+else-rotate_right_spine w ↦ ap tree w.above-is ∙ w.if-rotate_right_spine.ensures.2
      | visit_after-else-loop-nesting-test w ↦ ap tree w.above-is
    ] in
    let inside = rw n_is at (inside_there (CallsMut (goal.F-step g)) so_far.unicode refl so_far.direction c.visit_inside.ensures.visited) in
    let called = called_there (CallsMut (goal.F-step g)) so_far.unicode refl so_far.direction c.call.ensures.called in
    so_far.visited (tree c.call.new.n) (tree c.climb.new.n) c.call.new.func c.climb.new.func (after_children inside called)
    (rw above_is at c.climb.ensures.climbed)

pub visit_list-visit_mut-requires : goal.visit_list-visit_mut-requires
visit_list-visit_mut-requires g t c κs lives =
    let l = c.loop-i in
    let node = c.index_mut.result.now in
    let fewer = nodes_next l.parts.items c.args.parts.now.items l.i (search rules) node c.index_mut.ensures.value l.invariant.unvisited in
    (omega (arith, fewer), search rules)

pub visit_list-loop-i-preserved : goal.visit_list-loop-i-preserved
visit_list-loop-i-preserved g t c =
    let l = c.loop-i in
    let so_far = l.invariant in
    let old = c.args.parts.now.items in
    let node = c.index_mut.result.now in
    let new = c.visit_mut.new.n in
    let at = c.index_mut.ensures.value in
    let next = next_is l.parts.items old l.i (search rules) node at so_far.unvisited in
    record {
      callable = c.visit_mut.ensures.callable;
      length = length-set l.parts.items l.i new ∙ so_far.length;
      unvisited = unvisited_next l.parts.items old l.i (search rules) node at so_far.unvisited new;
      visited = λ ts b rest.
          rw (visited_next l.parts.items old l.i (search rules) node at so_far.unvisited new ts)
          (so_far.visited _ b (rw next (one_more c.visit_mut.ensures.visited rest)));
    }

pub visit_list-returns-clause-visited : goal.visit_list-returns-clause-visited
visit_list-returns-clause-visited g t c =
    let l = c.loop-i in
    let old = c.args.parts.now.items in
    let done : drop l.i old ≡ [] = drop_all l.i old (search rules) in
    let all : take l.i l.parts.items ≡ l.parts.items = take_all l.i l.parts.items (search rules) in
    let whole = l.invariant.visited no_trees l.func (rw done no_more) in
    rw (all, append_trees-none) at whole
