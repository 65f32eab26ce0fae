-- The trees of reversed nodes are the reversed trees.
use Rattle.std.proofs.Common.{◌≡◌, List, [], ◌∷◌, reverse, refl, ap, ◌∙◌}
use Rattle.std.proofs.lemmas.Grind.{reverse_onto}
use Rattle.regress_tree.specs.declared.ir.node.Node.{Node}
use Rattle.regress_tree.specs.Tree.{tree, trees, append_trees, reverse_trees, more_trees, no_trees}
use Rattle.regress_tree.proofs.lemmas.Lists.{trees-append}

pub trees-reversed : (nodes : List Node) → trees (reverse nodes) ≡ reverse_trees (trees nodes)
trees-reversed [] = refl
trees-reversed (n ∷ nodes) =
    ap trees (reverse_onto nodes n [])
    ∙ trees-append (reverse nodes) (n ∷ [])
    ∙ ap (λ r. append_trees r (more_trees (tree n) no_trees)) (trees-reversed nodes)
