-- Lists of nodes that fail a test.
use Rattle.std.proofs.Common.{◌≡◌, Bool, not, List, [], ◌∷◌, inl, inr, refl, ap}
use Rattle.std.specs.List.{filter}
use Rattle.std.proofs.lemmas.Bool.{cases_Bool}
use Rattle.regress_tree.specs.declared.ir.node.Node.{Node}
use Rattle.regress_tree.specs.Tree.{Tree, more_trees, tree, trees}
use Rattle.regress_rewrite.specs.Taken.{list_without}

module _ (test : Tree → Bool) where
  pub list_without-filter : (nodes : List Node) → trees (filter (λ n. not (test (tree n))) nodes) ≡ list_without test (trees nodes)
  list_without-filter [] = refl
  list_without-filter (x ∷ nodes) = elim (cases_Bool (test (tree x))) [
    | inl is ↦ rw is (list_without-filter nodes)
    | inr is_not ↦ rw is_not (ap (more_trees (tree x)) (list_without-filter nodes))
  ]
