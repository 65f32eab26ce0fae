-- Each result is a lemma about trees, applied to the values of the call.
use Rattle.std.proofs.Common.{rules, arith, ◌∙◌, sym, ap, subst, refl, length-set, take, Vec, Global}
use Rattle.regress_tree.specs.declared.ir.node.Node.{Node}
use Rattle.regress_tree.specs.Spine.{reattach}
use Rattle.regress_tree.specs.Tree.{Tree, Trees, cat, alt, wrapped, tree, trees}
use Rattle.regress_tree.specs.Units.{units}
use Rattle.regress_tree.specs.Walk.{direction_of}
use Rattle.regress_tree.proofs.lemmas.Nesting.{out-Cat}
use Rattle.regress_tree.proofs.lemmas.Measures.{units-positive}
use Rattle.regress_tree.proofs.lemmas.Nodes.{tree-Cat}
use Rattle.regress_tree.proofs.lemmas.TreeContexts.{inside_of, direction_inside}
use Rattle.regress_rewrite.specs.Law.{IsPart}
use Rattle.regress_rewrite.proofs.lemmas.Keeps.{IsPart-part}
use Rattle.regress_rewrite.proofs.lemmas.Parts.{IsPart-at, units_at, unvisited-next}
use Rattle.regress_rewrite.proofs.lemmas.Spine.{IsPart-reattach}
use Rattle.regress_normalize.specs.PartFacts.{HasListFacts}
use Rattle.regress_normalize.specs.Steps.{Denotes}
use Rattle.regress_normalize.proofs.NormalLemmas.{IsNormal-reattach}
use Rattle.regress_tree.specs.NormalForm.{IsNormal}
use Rattle.regress_normalize.proofs.TraversalLemmas.{Denotes-reattach, Denotes-normalized, Denotes-only_part, IsPart-occurs, Normalized-after, Normalized-error, occurs_inside, wraps, wraps_clean, Normalized-finished, Finished-error, still_one_up, units-reattach, units_up, onto_up, occurs_up, IsPart_up, occurs_left, both_sides, taken, more_normal, Denotes-part, Denotes-as}
use Rattle.regress_normalize.proofs.traversal.+normalize.Goals as goal

pub normalize-normalize_last-requires : goal.normalize-normalize_last-requires
normalize-normalize_last-requires t c =
    let whole = c.descend.ensures.whole in
    let node = tree c.descend.new.node in
    let above = tree c.descend.new.above in (
      omega (arith, ap units whole, units-reattach above node),
      (IsPart-reattach above node (subst (λ (u : Tree). IsPart u) (sym whole) c.requires), c.descend.ensures.last),
    )

pub normalize-normalize_up-requires : goal.normalize-normalize_up-requires
normalize-normalize_up-requires t c =
    let whole = c.descend.ensures.whole in
    let node = tree c.descend.new.node in
    let above = tree c.descend.new.above in
    let d = direction_of c.args.walk.now in
    let occurs = Denotes-reattach d above node _ (Denotes-normalized d node _ _ c.normalize_last.ensures) in (
      omega (arith, ap units whole, units-reattach above node, units-positive node),
      (
        IsPart-occurs d (reattach above node) _ occurs (subst (λ (u : Tree). IsPart u) (sym whole) c.requires),
        (c.in-Ok.ensures.normal, c.in-Ok.ensures.facts),
      ),
    )

pub normalize-returns-in-Ok : goal.normalize-returns-in-Ok
normalize-returns-in-Ok t c =
    let node = tree c.descend.new.node in
    let above = tree c.descend.new.above in
    let last = tree c.normalize_last.new.node in
    let d = direction_of c.args.walk.now in
    let occurs = Denotes-reattach d above node last (Denotes-normalized d node last _ c.normalize_last.ensures) in
    let so_far = subst (λ (u : Tree). Denotes d u (reattach above last)) c.descend.ensures.whole occurs in
    Normalized-finished _ d _ (reattach above last) _ _ so_far c.normalize_up.ensures
    (λ normal.
    let kept = subst (λ (u : Tree). IsNormal u) (sym (so_far.left normal)) normal in
    let last_old = IsNormal-reattach above node (subst (λ (u : Tree). IsNormal u) (sym c.descend.ensures.whole) normal) in
    (kept, c.in-Ok.ensures.still_one last_old))

pub normalize-returns-in-Err : goal.normalize-returns-in-Err
normalize-returns-in-Err t c =
    let node = tree c.descend.new.node in
    let above = tree c.descend.new.above in
    let last = tree c.normalize_last.new.node in
    let d = direction_of c.args.walk.now in
    let occurs = Denotes-reattach d above node last (Denotes-normalized d node last _ c.normalize_last.ensures) in
    let so_far = subst (λ (u : Tree). Denotes d u (reattach above last)) c.descend.ensures.whole occurs in
    rw c.restore_spine.ensures (Normalized-error d _ (reattach above last) _ refl so_far)

pub normalize_alt-returns-in_err-left : goal.normalize_alt-returns-in_err-left
normalize_alt-returns-in_err-left t c =
    let left_is = c.deref_mut.ensures.value in
    let d = direction_of c.args.walk.now in
    let has = c.in-Some.ensures.left in
    let left = tree c.in-Some.left.now.value in
    let right = has.right in
    let ends = rw (c.in-Some.is, has.is) at (c.left_mut.follows.holds (record c.in-Some.left.now { value = c.normalize.new.node })) in
    let made = tree c.normalize.new.node in
    let occurs = occurs_left d (alt left right) left made right refl _ (rw left_is at c.normalize.ensures) in
    rw (ends, has.is) (Normalized-error d (alt left right) (alt made right) _ c.from_residual.ensures.0 occurs)

pub normalize_alt-finish_alt-requires-clause-part : goal.normalize_alt-finish_alt-requires-clause-part
normalize_alt-finish_alt-requires-clause-part t c =
    let left_is = c.deref_mut.ensures.value in
    let d = direction_of c.args.walk.now in
    let has = c.in-Some.ensures.left in
    let left = tree c.in-Some.left.now.value in
    let right = has.right in
    let ends = rw (c.in-Some.is, has.is) at (c.left_mut.follows.holds (record c.in-Some.left.now { value = c.normalize.new.node })) in
    let made = tree c.normalize.new.node in
    let occurs = occurs_left d (alt left right) left made right refl _ (rw left_is at c.normalize.ensures) in
    let part = rw has.is at c.requires.part in
    rw ends (IsPart-occurs d (alt left right) (alt made right) occurs part)

pub normalize_alt-finish_alt-requires-clause-sides : goal.normalize_alt-finish_alt-requires-clause-sides
normalize_alt-finish_alt-requires-clause-sides t c =
    let has = c.in-Some.ensures.left in
    let left = tree c.in-Some.left.now.value in
    let right = has.right in
    let ends = rw (c.in-Some.is, has.is) at (c.left_mut.follows.holds (record c.in-Some.left.now { value = c.normalize.new.node })) in
    let onto = rw has.is at c.requires.onto in
    rw ends
    (both_sides (alt left right) left right c.args.right.now c.in_ok-left.left refl onto (tree c.normalize.new.node) c.in_ok-left.ensures.normal
    c.in_ok-left.ensures.facts)

pub normalize_alt-returns : goal.normalize_alt-returns
normalize_alt-returns t c =
    let left_is = c.deref_mut.ensures.value in
    let d = direction_of c.args.walk.now in
    let has = c.in-Some.ensures.left in
    let left = tree c.in-Some.left.now.value in
    let right = has.right in
    let ends = rw (c.in-Some.is, has.is) at (c.left_mut.follows.holds (record c.in-Some.left.now { value = c.normalize.new.node })) in
    let made = tree c.normalize.new.node in
    let occurs = occurs_left d (alt left right) left made right refl _ (rw left_is at c.normalize.ensures) in
    let finished = rw ends at (c.finish_alt.ensures d) in
    rw has.is (Normalized-after d (alt left right) (alt made right) _ _ occurs finished)

pub normalize_body-normalize-requires : goal.normalize_body-normalize-requires
normalize_body-normalize-requires t c =
    let around = c.in-Some.ensures.body in
    let value = c.deref_mut.ensures.value in
    let whole : IsPart (wrapped around.wrapper (tree c.in-Some.body.now.value)) = rw around.is at c.requires.part in
    let part = rw (← value) at (IsPart-part (inside_of around.wrapper) (tree c.in-Some.body.now.value) whole) in
    (omega (arith, ap units around.is, ap (λ n. units (tree n)) value), part)

pub normalize_body-returns : goal.normalize_body-returns
normalize_body-returns t c =
    let around = c.in-Some.ensures.body in
    let w = around.wrapper in
    let d = direction_of c.args.walk.now in
    let turned = rw around.is at c.walk_inside-inner.ensures.direction in
    let towards = direction_inside w c.args.walk.now c.walk_inside-inner.result turned in
    let new = record c.in-Some.body.now { value = c.normalize.new.node } in
    let ends = rw (c.in-Some.is, around.is) at (c.body_mut.follows.holds new) in
    let here = rw (c.deref_mut.ensures.value, towards) at c.normalize.ensures in
    rw (ends, around.is)
    (record { keeps = occurs_inside d w _ _ _ here; body = wraps d w _ _ _ here; still_one = wraps_clean d w _ _ _ here })

pub normalize_last-normalize-requires : goal.normalize_last-normalize-requires
normalize_last-normalize-requires t c =
    let taken = c.if-take_only_part.ensures in
    let d = direction_of c.args.walk.now in
    (omega (arith, ap units taken), IsPart-occurs d _ _ (Denotes-only_part d _ _ taken) c.requires.part)

pub normalize_last-returns-then-take_only_part : goal.normalize_last-returns-then-take_only_part
normalize_last-returns-then-take_only_part t c =
    let d = direction_of c.args.walk.now in
    Normalized-after d _ _ _ _ (Denotes-only_part d _ _ c.if-take_only_part.ensures) c.normalize.ensures

pub normalize_last-normalize_parts-requires : goal.normalize_last-normalize_parts-requires
normalize_last-normalize_parts-requires t c =
    let start = sym c.if-take_only_part.ensures ∙ ap tree c.in-Cat.is ∙ tree-Cat c.in-Cat.parts in
    let given = ap (λ (ps : Vec Node Global). cat (trees ps.items)) c.in-Cat.parts-is ∙ sym start in
    (omega (arith, ap units given), subst (λ (u : Tree). IsPart u) (sym given) c.requires.part)

pub normalize_last-returns-in_err-list-in-Cat : goal.normalize_last-returns-in_err-list-in-Cat
normalize_last-returns-in_err-list-in-Cat t c =
    let d = direction_of c.args.walk.now in
    let start = sym c.if-take_only_part.ensures ∙ ap tree c.in-Cat.is ∙ tree-Cat c.in-Cat.parts in
    let given = ap (λ (ps : Vec Node Global). cat (trees ps.items)) c.in-Cat.parts-is ∙ sym start in
    Normalized-error d _ _ _ c.from_residual.ensures.0
    (Denotes-as d given (rw (c.in-Cat.is, out-Cat) (sym (tree-Cat c.normalize_parts.new.parts))) c.normalize_parts.ensures.keeps)

pub normalize_last-finish_cat-requires-clause-part : goal.normalize_last-finish_cat-requires-clause-part
normalize_last-finish_cat-requires-clause-part t c =
    let d = direction_of c.args.walk.now in
    let start = sym c.if-take_only_part.ensures ∙ ap tree c.in-Cat.is ∙ tree-Cat c.in-Cat.parts in
    let given = ap (λ (ps : Vec Node Global). cat (trees ps.items)) c.in-Cat.parts-is ∙ sym start in
    IsPart-occurs d _ _ (Denotes-as d given (rw (c.in-Cat.is, out-Cat) (sym (tree-Cat c.normalize_parts.new.parts))) c.normalize_parts.ensures.keeps)
    c.requires.part

pub normalize_last-finish_cat-requires-clause-parts : goal.normalize_last-finish_cat-requires-clause-parts
normalize_last-finish_cat-requires-clause-parts t c = record {
  parts = trees c.normalize_parts.new.parts.items;
  is = rw (c.in-Cat.is, out-Cat) (tree-Cat c.normalize_parts.new.parts);
  normal = c.in_ok-list-in-Cat.ensures.normal;
  facts = c.in_ok-list-in-Cat.ensures.facts;
}

pub normalize_last-returns-in_ok-list-in-Cat : goal.normalize_last-returns-in_ok-list-in-Cat
normalize_last-returns-in_ok-list-in-Cat t c =
    let d = direction_of c.args.walk.now in
    let start = sym c.if-take_only_part.ensures ∙ ap tree c.in-Cat.is ∙ tree-Cat c.in-Cat.parts in
    let given = ap (λ (ps : Vec Node Global). cat (trees ps.items)) c.in-Cat.parts-is ∙ sym start in
    Normalized-after d _ _ _ _
    (Denotes-as d given (rw (c.in-Cat.is, out-Cat) (sym (tree-Cat c.normalize_parts.new.parts))) c.normalize_parts.ensures.keeps) c.finish_cat.ensures

pub normalize_last-returns-in_default : goal.normalize_last-returns-in_default
normalize_last-returns-in_default t c =
    rw (sym c.if-take_only_part.ensures) (c.finish_leaf.ensures (direction_of c.args.walk.now))

pub normalize_parts-normalize-requires : goal.normalize_parts-normalize-requires
normalize_parts-normalize-requires t c =
    let l = c.loop-i in
    let node = c.index_mut-part.result.now in
    let part = IsPart-at l.parts.items l.i (search rules) node c.index_mut-part.ensures.value _ _ l.invariant.occurs.keeps c.requires in
    let smaller = units_at l.parts.items l.i (search rules) node c.index_mut-part.ensures.value c.args.parts.now.items l.invariant.unvisited in
    (omega (arith, smaller), part)

pub normalize_parts-returns-in_err-facts-clause-keeps : goal.normalize_parts-returns-in_err-facts-clause-keeps
normalize_parts-returns-in_err-facts-clause-keeps t c =
    let l = c.loop-i in
    let node = c.index_mut-part.result.now in
    Denotes-part l.parts.items l.i (search rules) c.normalize.new.node _ c.args.parts.now.items node c.index_mut-part.ensures.value _
    l.invariant.occurs c.normalize.ensures

pub normalize_parts-returns-in_err-add-clause-keeps : goal.normalize_parts-returns-in_err-add-clause-keeps
normalize_parts-returns-in_err-add-clause-keeps t c =
    let l = c.loop-i in
    let node = c.index_mut-part.result.now in
    Denotes-part l.parts.items l.i (search rules) c.normalize.new.node _ c.args.parts.now.items node c.index_mut-part.ensures.value _
    l.invariant.occurs c.normalize.ensures

pub normalize_parts-loop-i-preserved : goal.normalize_parts-loop-i-preserved
normalize_parts-loop-i-preserved t c =
    let l = c.loop-i in
    let node = c.index_mut-part.result.now in
    let old = c.args.parts.now.items in
    let new = c.normalize.new.node in
    let more = c.in_ok-add.ensures (trees (take l.i l.parts.items)) (tree new) l.invariant.facts c.in_ok-facts.ensures.facts c.is_cat.ensures in
    record {
      length = length-set l.parts.items l.i new ∙ l.invariant.length;
      unvisited = unvisited-next l.parts.items old l.i new l.invariant.unvisited;
      occurs = Denotes-part l.parts.items l.i (search rules) new _ old node c.index_mut-part.ensures.value _ l.invariant.occurs
          c.normalize.ensures;
      normal = more_normal l.parts.items l.i (search rules) new l.invariant.normal c.in_ok-facts.ensures.normal;
      facts = subst (λ (ts : Trees). HasListFacts c.add.new.self ts) (sym (taken l.parts.items l.i (search rules) new)) more;
    }

pub normalize_up-normalize_alt-requires : goal.normalize_up-normalize_alt-requires
normalize_up-normalize_alt-requires t c =
    let l = c.loop-alloc in
    let shifted = c.loop-alloc-test.ensures in (
      omega (arith, units_up (tree l.above) (tree l.node) _ _ shifted, l.invariant.smaller),
      (
        IsPart_up (tree l.above) (tree l.node) _ _ shifted _ _ l.invariant.occurs c.requires.part,
        onto_up (tree l.above) (tree l.node) _ _ shifted l.right l.invariant.normal l.invariant.facts,
      ),
    )

pub normalize_up-loop-alloc-preserved : goal.normalize_up-loop-alloc-preserved
normalize_up-loop-alloc-preserved t c =
    let l = c.loop-alloc in
    let shifted = c.loop-alloc-test.ensures in
    record {
      occurs = occurs_up (tree l.above) (tree l.node) _ _ shifted _ _ _ _ l.invariant.occurs c.in-Ok.ensures;
      normal = c.in-Ok.ensures.normal;
      facts = c.in-Ok.ensures.facts;
      smaller = omega (arith, units_up (tree l.above) (tree l.node) _ _ shifted, l.invariant.smaller);
      still_one = λ clean.
          still_one_up (tree l.above) (tree l.node) _ _ shifted _ _ _ c.in-Ok.here l.invariant.occurs c.in-Ok.ensures clean.0;
    }

pub normalize_up-returns-in-Err : goal.normalize_up-returns-in-Err
normalize_up-returns-in-Err t c =
    let l = c.loop-alloc in
    let shifted = c.loop-alloc-test.ensures in
    rw c.restore_spine.ensures
    (Finished-error _ _ _ _ _ refl (occurs_up (tree l.above) (tree l.node) _ _ shifted _ _ _ _ l.invariant.occurs c.in-Err.ensures))

-- a node around a body
pub normalize_last-returns-in_ok-body-in-CaptureGroup : goal.normalize_last-returns-in_ok-body-in-CaptureGroup
normalize_last-returns-in_ok-body-in-CaptureGroup t c =
    rw (sym c.if-take_only_part.ensures)
    (Normalized-finished _ (direction_of c.args.walk.now) _ _ _ _ c.normalize_body.ensures.keeps c.finish_wrapper.ensures
    c.in_ok-body-in-CaptureGroup.ensures.still_one)
