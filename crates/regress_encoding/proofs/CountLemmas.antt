-- The number of trees of a list of nodes.
use Rattle.std.proofs.Common.{◌≡◌, suc, List, [], ◌∷◌, length, refl, ap}
use Rattle.regress_tree.specs.declared.ir.node.Node.{Node}
use Rattle.regress_tree.specs.Tree.{trees}
use Rattle.regress_encoding.specs.Encoding.{trees_count}

pub trees_counted : (nodes : List Node) → trees_count (trees nodes) ≡ length nodes
trees_counted [] = refl
trees_counted (x ∷ nodes) = ap (λ n. suc n) (trees_counted nodes)
