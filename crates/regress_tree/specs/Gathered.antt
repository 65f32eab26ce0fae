-- The list that a caller's walk may collect.
use Rattle.std.specs.Prelude.{List, [], ◌++◌}
use Rattle.regress_tree.specs.WellFormed.{Capture, captures_of_wrapper}
use Rattle.regress_tree.specs.Tree.{Tree, Trees, leaf, cat, alt, wrapped, no_trees, more_trees}

-- the items of all nodes of a tree, each node before those inside it
abbrev mutual
  pub gathered : {X : Type 0} → (Tree → List X) → Tree → List X
  gathered own (leaf l) = own (leaf l)
  gathered own (cat parts) = own (cat parts) ++ gathered_in_list own parts
  gathered own (alt left right) = own (alt left right) ++ (gathered own left ++ gathered own right)
  gathered own (wrapped w body) = own (wrapped w body) ++ gathered own body

  pub gathered_in_list : {X : Type 0} → (Tree → List X) → Trees → List X
  gathered_in_list own no_trees = []
  gathered_in_list own (more_trees t ts) = gathered own t ++ gathered_in_list own ts

-- the capture group that a node itself is, if it is one
abbrev pub own_group : Tree → List Capture
own_group (wrapped w body) = captures_of_wrapper w
own_group t = []
