-- Splicing the parts of nested `Cat`s.
use Rattle.std.specs.Prelude.{ℕ, ◌+◌}
use Rattle.regress_tree.specs.Tree.{Tree, Trees, leaf, cat, alt, wrapped, no_trees, more_trees, append_trees}

-- the parts that replace a tree in a list: those of a `Cat`, and any other tree itself
abbrev pub parts_of : Tree → Trees
parts_of (leaf l) = more_trees (leaf l) no_trees
parts_of (cat parts) = parts
parts_of (alt left right) = more_trees (alt left right) no_trees
parts_of (wrapped w body) = more_trees (wrapped w body) no_trees

-- the list with each `Cat` replaced by its parts
abbrev pub spliced : Trees → Trees
spliced no_trees = no_trees
spliced (more_trees t ts) = append_trees (parts_of t) (spliced ts)

-- the number of trees
abbrev pub list_length : Trees → ℕ
list_length no_trees = 0
list_length (more_trees t ts) = 1 + list_length ts
