-- Sums over the nodes of a tree, and its nesting depth.
use Rattle.std.specs.Prelude.{ℕ, ◌+◌, max}
use Rattle.regress_tree.specs.Tree.{Leaf, Wrapper, Tree, Trees, leaf, cat, alt, wrapped, no_trees, more_trees}

-- The number that each node counts by itself. Its children are counted in addition.
pub record Measure : Type 0 where
  pub of_leaf : Leaf → ℕ
  pub of_cat : ℕ
  pub of_alt : ℕ
  pub of_wrapper : Wrapper → ℕ

-- the sum over all nodes of a tree, and of a list of trees
module _ (m : Measure) where
  abbrev mutual
    pub total : Tree → ℕ
    total (leaf l) = m.of_leaf l
    total (cat parts) = m.of_cat + total_in_list parts
    total (alt left right) = m.of_alt + (total left + total right)
    total (wrapped w body) = m.of_wrapper w + total body

    pub total_in_list : Trees → ℕ
    total_in_list no_trees = 0
    total_in_list (more_trees t ts) = total t + total_in_list ts

-- The nesting depth of a tree: one more than that of the deepest part.
abbrev mutual
  pub nesting : Tree → ℕ
  nesting (leaf l) = 1
  nesting (cat parts) = 1 + nesting_of_deepest parts
  nesting (alt left right) = 1 + max (nesting left) (nesting right)
  nesting (wrapped w body) = 1 + nesting body

  pub nesting_of_deepest : Trees → ℕ
  nesting_of_deepest no_trees = 0
  nesting_of_deepest (more_trees t ts) = max (nesting t) (nesting_of_deepest ts)
