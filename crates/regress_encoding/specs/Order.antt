-- The numbers of a tree's nodes in postorder, in the order of its encoding: each node before those inside it.
use Rattle.std.specs.Prelude.{ℕ, ◌+◌, List, [], ◌∷◌, ◌++◌}
use Rattle.regress_tree.specs.Tree.{Tree, Trees, leaf, cat, alt, wrapped, no_trees, more_trees}
use Rattle.regress_tree.specs.Visits.{nodes, nodes_in_list}

abbrev mutual
  -- `at` is the number of the first node in postorder. A node comes after those inside it.
  pub numbers_of : (at : ℕ) → Tree → List ℕ
  numbers_of at (leaf l) = at ∷ []
  numbers_of at (cat parts) = (at + nodes_in_list parts) ∷ numbers_in_list at parts
  numbers_of at (alt left right) = (at + (nodes left + nodes right)) ∷ (numbers_of at left ++ numbers_of (at + nodes left) right)
  numbers_of at (wrapped w body) = (at + nodes body) ∷ numbers_of at body

  -- the same for the trees of a list in order
  pub numbers_in_list : (at : ℕ) → Trees → List ℕ
  numbers_in_list at no_trees = []
  numbers_in_list at (more_trees t ts) = numbers_of at t ++ numbers_in_list (at + nodes t) ts
