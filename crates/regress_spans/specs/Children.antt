-- The children of a tree, and the trees of nodes by reference.
use Rattle.std.specs.Prelude.{List, [], ◌∷◌, map}
use Rattle.std.specs.Borrow.{Bor}
use Rattle.regress_tree.specs.Tree.{Tree, Trees, leaf, cat, alt, wrapped, no_trees, more_trees, tree}
use Rattle.regress_tree.specs.declared.ir.node.Node.{Node}

-- the trees of a list, as a `List`
abbrev pub parts_of : Trees → List Tree
parts_of no_trees = []
parts_of (more_trees t ts) = t ∷ parts_of ts

-- the body of a tree, if it has one
abbrev pub body_of : Tree → List Tree
body_of (leaf l) = []
body_of (cat parts) = []
body_of (alt left right) = []
body_of (wrapped w body) = body ∷ []

-- the children of a tree, from left to right
abbrev pub children : Tree → List Tree
children (cat parts) = parts_of parts
children (alt left right) = left ∷ right ∷ []
children t = body_of t

abbrev pub trees_at : List (Bor Node) → List Tree
trees_at = map (λ (node : Bor Node). tree node.now)
