use Rattle.std.proofs.Common.{◌∙◌, ap, reverse}
use Rattle.regress_tree.specs.Tree.{trees, cat}
use Rattle.regress_tree.proofs.lemmas.Nesting.{out-Cat}
use Rattle.regress_tree.proofs.lemmas.Nodes.{tree-Cat}
use Rattle.regress_tree.proofs.lemmas.Reversed.{trees-reversed}
use Rattle.regress_tree.proofs.ir.node.Node.reverse_cats.Goals as goal

pub returns-then-w-clause-lookbehind : goal.returns-then-w-clause-lookbehind
returns-then-w-clause-lookbehind c lookbehind =
    let parts = c.in-Cat.parts in
    let turned = ap (λ nodes. cat (trees nodes)) c.reverse.ensures.items
    ∙ ap (λ v. cat (trees (reverse v.items))) c.in-Cat.parts-is
    ∙ ap cat (trees-reversed parts.items) in
    rw (c.in-Cat.is, out-Cat, tree-Cat) (rw tree-Cat turned)
