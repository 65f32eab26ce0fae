-- Lists of nodes, and splicing the parts of nested `Cat`s.
use Rattle.std.proofs.Common.{◌≡◌, ℕ, ◌+◌, ◌<◌, ◌≤◌, List, [], ◌∷◌, ◌++◌, length, get_or, take, drop, Vec, Global, vec_len, sym, ap, ap₂, ◌∙◌, arith}
use Rattle.std.proofs.lemmas.List.{take_more, length_push, take-append-drop}
use Rattle.regress_tree.specs.declared.ir.node.Node.{Node}
use Rattle.regress_tree.specs.declared.ir.node.Node.TheVariants.{Cat}
use Rattle.regress_tree.specs.Tree.{append_trees, tree, trees}
use Rattle.regress_tree.proofs.lemmas.Nodes.{tree-Cat}
use Rattle.regress_tree.proofs.lemmas.Lists.{append_trees-none, trees-append}
use Rattle.regress_rewrite.specs.Splice.{parts_of, spliced, list_length}
use Rattle.regress_rewrite.proofs.lemmas.Splicing.{spliced-append, list_length-append, list_length-trees}

-- The number of parts that replace a node, and the nodes of a list.

abbrev pub part_len : Node → ℕ
part_len node = list_length (parts_of (tree node))

abbrev pub flat_len : List Node → ℕ
flat_len nodes = list_length (spliced (trees nodes))

flat-append : (xs ys : List Node) → spliced (trees (xs ++ ys)) ≡ append_trees (spliced (trees xs)) (spliced (trees ys))
flat-append xs ys = ap spliced (trees-append xs ys) ∙ spliced-append (trees xs) (trees ys)

-- splicing one more node
flat-push : (xs : List Node) (x : Node) → spliced (trees (xs ++ x ∷ [])) ≡ append_trees (spliced (trees xs)) (parts_of (tree x))
flat-push xs x = flat-append xs (x ∷ []) ∙ ap (append_trees (spliced (trees xs))) (append_trees-none (parts_of (tree x)))

flat_len-push : (xs : List Node) (x : Node) → flat_len (xs ++ x ∷ []) ≡ flat_len xs + part_len x
flat_len-push xs x = ap list_length (flat-push xs x) ∙ list_length-append (spliced (trees xs)) (parts_of (tree x))

pub flat_len-more : (xs : List Node) (i : ℕ) (x : Node) → i < length xs → x ≡ get_or xs i x →
    flat_len (take (i + 1) xs) ≡ flat_len (take i xs) + part_len x
flat_len-more xs i x in_list at =
    ap flat_len (take_more xs i x in_list ∙ ap (λ y. take i xs ++ y ∷ []) (sym at)) ∙ flat_len-push (take i xs) x

-- A `Cat` is replaced by its parts, and any other node by itself.

pub parts_of-Cat : (node : Node) (inner : Vec Node Global) → node ≡ Cat inner → parts_of (tree node) ≡ trees inner.items
parts_of-Cat node inner is = ap (λ n. parts_of (tree n)) is ∙ ap parts_of (tree-Cat inner)

pub parts_len-Cat : (node : Node) (inner : Vec Node Global) → node ≡ Cat inner → part_len node ≡ vec_len inner
parts_len-Cat node inner is = ap list_length (parts_of-Cat node inner is) ∙ list_length-trees inner.items ∙ sym inner.ok.0

-- Moving the nodes of a list, where `moved` are done and x is the next.

module _ (all moved : List Node) (x : Node) (before : moved ≡ take (length moved) all)
    (in_list : length moved < length all) (at : x ≡ get_or all (length moved) x) where
  next_moved : moved ++ x ∷ [] ≡ take (length moved + 1) all
  next_moved = ap₂ (λ (ys : List Node) (y : Node). ys ++ y ∷ []) before at ∙ sym (take_more all (length moved) x in_list)

  pub moved_before : moved ++ x ∷ [] ≡ take (length (moved ++ x ∷ [])) all
  moved_before = next_moved ∙ ap (λ n. take n all) (sym (length_push moved x))

  pub moved_fits : flat_len moved + part_len x ≤ flat_len all
  moved_fits =
      let rest = drop (length moved + 1) all in
      let cut : all ≡ (moved ++ x ∷ []) ++ rest = sym (take-append-drop (length moved + 1) all) ∙ ap (λ ys. ys ++ rest) (sym next_moved) in
      let whole = ap flat_len cut ∙ ap list_length (flat-append (moved ++ x ∷ []) rest) in
      omega (arith, whole, flat_len-push moved x, list_length-append (spliced (trees (moved ++ x ∷ []))) (spliced (trees rest)))

-- the new list so far: its length, and with the parts of the next node
module _ (flat moved : List Node) (items : trees flat ≡ spliced (trees moved)) where
  pub moved_len : length flat ≡ flat_len moved
  moved_len = sym (list_length-trees flat) ∙ ap list_length items

  pub moved_items : (more : List Node) (x : Node) → trees more ≡ append_trees (trees flat) (parts_of (tree x)) →
      trees more ≡ spliced (trees (moved ++ x ∷ []))
  moved_items more x is = is ∙ ap (λ ts. append_trees ts (parts_of (tree x))) items ∙ sym (flat-push moved x)
