-- The trees that `try_duplicate` copies.
use Rattle.std.specs.Prelude.{ℕ, ◌+◌, Bool, true, not, ◌&&◌, nat_le}
use Rattle.regress_tree.specs.Shapes.{is_string_set}
use Rattle.regress_tree.specs.Tree.{Tree, Trees, leaf, cat, alt, wrapped, no_trees, more_trees}

-- No node of the tree, whose root is at this depth, is at a depth above 100, and none is a `StringSet`.
abbrev mutual
  pub may_duplicate : (depth : ℕ) → Tree → Bool
  may_duplicate depth (leaf l) = nat_le depth 100 && not (is_string_set l)
  may_duplicate depth (cat parts) = nat_le depth 100 && may_duplicate_list (depth + 1) parts
  may_duplicate depth (alt left right) = nat_le depth 100 && (may_duplicate (depth + 1) left && may_duplicate (depth + 1) right)
  may_duplicate depth (wrapped w body) = nat_le depth 100 && may_duplicate (depth + 1) body

  pub may_duplicate_list : (depth : ℕ) → Trees → Bool
  may_duplicate_list depth no_trees = true
  may_duplicate_list depth (more_trees t ts) = may_duplicate depth t && may_duplicate_list depth ts
