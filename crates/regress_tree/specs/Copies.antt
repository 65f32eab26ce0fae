-- The preconditions of copying a tree.
use Rattle.std.specs.Prelude.{◌≤◌, Bool, true, false}
use Rattle.regress_tree.specs.Tree.{Wrapper, capture_group, loop, loop_one, lookaround, Tree, Trees, leaf, cat, alt, wrapped, no_trees, more_trees}

-- The wrapper is not a capture group, and its group range is empty.
abbrev pub IsGroupless : Wrapper → Type 0
IsGroupless (capture_group id name) = ⊥
IsGroupless (loop quantifier start end) = end ≤ start
IsGroupless (loop_one quantifier) = Unit {0}
IsGroupless (lookaround negate backwards start end) = end ≤ start

-- No node is a capture group, and the group range of each loop and lookaround is empty.
abbrev mutual
  pub HasNoGroup : Tree → Type 0
  HasNoGroup (leaf l) = Unit {0}
  HasNoGroup (cat parts) = NoneHasGroup parts
  HasNoGroup (alt left right) = HasNoGroup left × HasNoGroup right
  HasNoGroup (wrapped w body) = IsGroupless w × HasNoGroup body

  pub NoneHasGroup : Trees → Type 0
  NoneHasGroup no_trees = Unit {0}
  NoneHasGroup (more_trees t ts) = HasNoGroup t × NoneHasGroup ts

-- The tree contains no other node.
abbrev pub is_leaf : Tree → Bool
is_leaf (leaf l) = true
is_leaf t = false
