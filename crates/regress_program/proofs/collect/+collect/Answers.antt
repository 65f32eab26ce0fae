use Rattle.std.proofs.Common.{◌≡◌, ◌-◌, [], ◌++◌, drop, length, map, refl, sym, ap, ◌∙◌, le_refl, le_trans, arith, append-nil, append_assoc}
use Rattle.std.proofs.lemmas.List.{drop_all}
use Rattle.regress_tree.proofs.lemmas.Nodes.{tree-Alt}
use Rattle.regress_tree.proofs.lemmas.Visits.{right_smaller}
use Rattle.regress_tree.specs.Tree.{alt, tree, trees}
use Rattle.regress_program.specs.LeavesOf.{leaves_of, leaves_of_parts, tree_of}
use Rattle.regress_program.proofs.LeavesLemmas.{parts-leaves}
use Rattle.regress_program.proofs.collect.+collect.Goals as goal

pub collect-loop-rest-init : goal.collect-loop-rest-init
collect-loop-rest-init t c = record { smaller = le_refl _; has = refl }

pub collect-loop-rest-preserved : goal.collect-loop-rest-preserved
collect-loop-rest-preserved t c =
    let l = c.loop-rest in
    let left = c.in-Alt.left.value in
    let right = c.in-Alt.right.value in
    let is : tree l.rest.now ≡ alt (tree left) (tree right) = ap tree c.in-Alt.is ∙ tree-Alt c.in-Alt.left c.in-Alt.right in
    let one : map tree_of c.collect.new.leaves.items ≡ map tree_of l.leaves.items ++ leaves_of (tree left) = rw c.deref.ensures at c.in_ok-collect.ensures in
    rw c.deref-rest.ensures (record {
      smaller = le_trans (right_smaller _ _ _ c.in-Alt.is) l.invariant.smaller;
      has =
          ap (λ xs. xs ++ leaves_of (tree right)) one ∙ append_assoc (map tree_of l.leaves.items) (leaves_of (tree left)) (leaves_of (tree right))
          ∙ ap (λ u. map tree_of l.leaves.items ++ leaves_of u) (sym is) ∙ l.invariant.has;
    })

pub collect_parts-loop-i-init : goal.collect_parts-loop-i-init
collect_parts-loop-i-init t c =
    let none : drop (length c.args.parts.now) c.args.parts.now ≡ [] = drop_all (length c.args.parts.now) c.args.parts.now (omega arith) in
    record {
      within = omega arith;
      has =
          sym (append-nil (map tree_of c.args.leaves.now.items))
          ∙ ap (λ xs. map tree_of c.args.leaves.now.items ++ leaves_of_parts (trees xs)) (sym none);
    }

pub collect_parts-loop-i-preserved : goal.collect_parts-loop-i-preserved
collect_parts-loop-i-preserved t c =
    let l = c.loop-i in
    let parts = c.args.parts.now in
    let x = c.index-parts-i.result in
    let old = map tree_of c.args.leaves.now.items in
    let rest = leaves_of_parts (trees (drop l.i parts)) in
    record {
      within = omega (arith, l.invariant.within);
      has =
          c.in_ok-collect.ensures ∙ ap (λ xs. xs ++ leaves_of (tree x)) l.invariant.has ∙ append_assoc old rest (leaves_of (tree x))
          ∙ ap (λ xs. old ++ xs) (sym (parts-leaves parts l.i (l.i - 1) x refl c.loop-i-test.true l.invariant.within c.index-parts-i.is));
    }
