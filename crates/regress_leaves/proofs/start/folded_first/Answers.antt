use Rattle.std.proofs.Common.{rules, arith, ◌≡◌, true, [], ◌∷◌, drop, map, slice_get, ap, ◌∙◌}
use Rattle.std.specs.Box.{boxed_slice_items}
use Rattle.regress_tree.specs.Tree.{leaf, string_set, tree}
use Rattle.regress_tree.specs.declared.ir.node.Node.{the_lemmas}
use Rattle.regress_leaves.proofs.StringLemmas.{first_of_string, sole_string}
use Rattle.regress_leaves.proofs.start.folded_first.Goals as goal

pub returns : goal.returns
returns c =
    let alternatives = c.in-StringSet-default-true.alternatives.items in
    let string = boxed_slice_items c.index.result.now in
    let icase : c.in-StringSet-default-true.icase ≡ true = search rules in
    let is : tree c.args.node.now ≡ leaf (string_set (map boxed_slice_items alternatives) true) = search (rules, the_lemmas) in
    let sole : map boxed_slice_items alternatives ≡ string ∷ [] =
    sole_string alternatives (omega (arith, c.len.ensures, c.if-len-ne1.false)) c.index.result.now c.index.ensures in
    let first : string ≡ c.in_ok-first.first.now ∷ drop 1 string =
    first_of_string string c.in_ok-first.first.now (c.in_ok-first.ensures.value ∙ ap (λ xs. slice_get xs 0) c.deref.ensures.value) in
    (drop 1 string, is ∙ ap (λ ss. leaf (string_set ss true)) (sole ∙ ap (λ s. s ∷ []) first))
