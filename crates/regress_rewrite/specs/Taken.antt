-- Lists of trees with some removed.
use Rattle.std.specs.Prelude.{◌≡◌, ◌⊎◌, Bool, if◌then◌else◌}
use Rattle.regress_tree.specs.Tree.{Tree, Trees, leaf, empty, no_trees, more_trees}

-- the list without the trees that pass the test
abbrev pub list_without : (Tree → Bool) → Trees → Trees
list_without test no_trees = no_trees
list_without test (more_trees t ts) = if test t then list_without test ts else more_trees t (list_without test ts)

-- the tree replaces a `Cat` of these parts: it is the only one, or `Empty` if there is none
abbrev pub IsOnlyPart : Tree → Trees → Type 0
IsOnlyPart t parts = ((parts ≡ no_trees) × (t ≡ leaf empty)) ⊎ (parts ≡ more_trees t no_trees)
