-- Lists of nodes, and the lists of their trees.
use Rattle.std.proofs.Common.{◌≡◌, ◌≤◌, Bool, false, ◌||◌, List, [], ◌∷◌, length, refl, ap, arith}
use Rattle.std.specs.List.{list_any}
use Rattle.regress_tree.specs.declared.ir.node.Node.{Node}
use Rattle.regress_tree.specs.Shapes.{some_part, is_short}
use Rattle.regress_tree.specs.Tree.{Tree, tree, trees}

pub some_part-any : (test : Tree → Bool) (nodes : List Node) → some_part test (trees nodes) ≡ list_any (λ n. test (tree n)) nodes
some_part-any test [] = refl
some_part-any test (x ∷ nodes) = ap (λ b. test (tree x) || b) (some_part-any test nodes)

pub is_short-from_len : (nodes : List Node) → 2 ≤ length nodes → is_short (trees nodes) ≡ false
is_short-from_len [] long = absurd (omega (arith, long))
is_short-from_len (x ∷ []) long = absurd (omega (arith, long))
is_short-from_len (x ∷ y ∷ nodes) long = refl
