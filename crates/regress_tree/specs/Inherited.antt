-- What the nodes of a tree inherit from the nodes around them, for a caller whose walk keeps track of it.
use Rattle.std.specs.Prelude.{List, [], ◌∷◌, ◌++◌}
use Rattle.regress_tree.specs.Tree.{Tree, Trees, leaf, cat, alt, wrapped, no_trees, more_trees}

-- All nodes of a tree, each before those inside it, paired with what it inherits: x at the root; a node t that inherits
-- x passes `handed x t` on to its children.
abbrev mutual
  pub inherited : {X : Type 0} → (X → Tree → X) → X → Tree → List (X × Tree)
  inherited handed x (leaf l) = (x, leaf l) ∷ []
  inherited handed x (cat parts) = (x, cat parts) ∷ inherited_in_list handed (handed x (cat parts)) parts
  inherited handed x (alt left right) =
      (x, alt left right) ∷ (inherited handed (handed x (alt left right)) left ++ inherited handed (handed x (alt left right)) right)
  inherited handed x (wrapped w body) = (x, wrapped w body) ∷ inherited handed (handed x (wrapped w body)) body

  pub inherited_in_list : {X : Type 0} → (X → Tree → X) → X → Trees → List (X × Tree)
  inherited_in_list handed x no_trees = []
  inherited_in_list handed x (more_trees t ts) = inherited handed x t ++ inherited_in_list handed x ts
