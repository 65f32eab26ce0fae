use Rattle.std.proofs.Common.{◌≡◌, ◌-◌, [], ◌∷◌, ◌++◌, drop, length, map, refl, sym, ap, ◌∙◌, arith, append-nil, append_assoc}
use Rattle.std.proofs.lemmas.List.{drop_all}
use Rattle.std.specs.Box.{boxed_slice_items}
use Rattle.regress_tree.specs.Tree.{leaf, string_set, tree}
use Rattle.regress_program.specs.LeavesOf.{leaves_of_strings, tree_of}
use Rattle.regress_program.proofs.LeavesLemmas.{strings-leaves}
use Rattle.regress_program.proofs.collect.collect_strings.Goals as goal

pub loop-i-init : goal.loop-i-init
loop-i-init c =
    let none : drop (length c.args.strings.now) c.args.strings.now ≡ [] = drop_all (length c.args.strings.now) c.args.strings.now (omega arith) in
    record {
      within = omega arith;
      has =
          sym (append-nil (map tree_of c.args.leaves.now.items))
          ∙ ap (λ xs. map tree_of c.args.leaves.now.items ++ leaves_of_strings (map boxed_slice_items xs) c.args.icase) (sym none);
    }

pub loop-i-preserved : goal.loop-i-preserved
loop-i-preserved c =
    let l = c.loop-i in
    let ss = c.args.strings.now in
    let x = c.index-strings-i.result in
    let old = map tree_of c.args.leaves.now.items in
    let rest = leaves_of_strings (map boxed_slice_items (drop l.i ss)) c.args.icase in
    let one : tree c.in_ok-one_string.field-0 ≡ leaf (string_set (boxed_slice_items x ∷ []) c.args.icase) =
    c.in_ok-one_string.ensures ∙ ap (λ s. leaf (string_set (s ∷ []) c.args.icase)) c.deref.ensures.value in
    record {
      within = omega (arith, l.invariant.within);
      has =
          c.in_ok-push_leaf.ensures ∙ ap (λ xs. xs ++ tree c.in_ok-one_string.field-0 ∷ []) l.invariant.has
          ∙ append_assoc old rest (tree c.in_ok-one_string.field-0 ∷ []) ∙ ap (λ u. old ++ (rest ++ u ∷ [])) one
          ∙ ap (λ xs. old ++ xs) (sym (strings-leaves ss c.args.icase l.i (l.i - 1) x refl c.loop-i-test.true l.invariant.within c.index-strings-i.is));
    }
