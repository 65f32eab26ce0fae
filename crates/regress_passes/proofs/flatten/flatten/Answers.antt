-- The law, from what happened to the parts.
use Rattle.std.proofs.Common.{◌∙◌, true, sym, ap}
use Rattle.regress_tree.specs.Shapes.{is_flattened_away}
use Rattle.regress_tree.specs.Tree.{tree, trees}
use Rattle.regress_tree.proofs.lemmas.Nodes.{tree-Cat}
use Rattle.regress_tree.proofs.lemmas.Nesting.{out-Cat}
use Rattle.regress_rewrite.proofs.lemmas.Lawful.{lawful_as}
use Rattle.regress_passes.proofs.FlattenLemmas.{flatten_lawful}
use Rattle.regress_passes.proofs.flatten.flatten.Goals as goal

pub returns-in-Cat-clause-lawful : goal.returns-in-Cat-clause-lawful
returns-in-Cat-clause-lawful c d =
    let parts = c.in-Cat.parts in
    let new = c.flatten_cat.new.parts in
    let action = rw c.in-Cat.parts-is at c.flatten_cat.ensures.action in
    lawful_as is_flattened_away true d c.flatten_cat.result (sym (ap tree c.in-Cat.is ∙ tree-Cat parts)) (rw (c.in-Cat.is, out-Cat) (sym (tree-Cat new)))
    (flatten_lawful d c.flatten_cat.result (trees parts.items) (trees new.items) action)
