-- The law, from what happened to the parts, or to the whole node.
use Rattle.std.proofs.Common.{◌≡◌, true, false, Ok, rules, sym, ap, ◌∙◌}
use Rattle.regress_tree.specs.declared.ir.node.Node.{the_lemmas}
use Rattle.regress_tree.specs.Tree.{tree, trees}
use Rattle.regress_tree.specs.NodeTests.{is_empty}
use Rattle.regress_tree.specs.Shapes.{is_cat, some_part, is_emptied_away}
use Rattle.regress_tree.proofs.lemmas.Nodes.{tree-Cat}
use Rattle.regress_tree.proofs.lemmas.Nesting.{out-Cat}
use Rattle.regress_rewrite.proofs.lemmas.Lawful.{lawful_as}
use Rattle.regress_passes.proofs.EmptiesLemmas.{whole_lawful, parts_lawful}
use Rattle.regress_passes.proofs.remove_empties.remove_empties.Goals as goal

pub returns-in-Cat : goal.returns-in-Cat
returns-in-Cat c d =
    let was = trees c.in-Cat.parts.items in
    let new = c.remove_empty_parts.new.parts in
    let is = ap tree c.in-Cat.is ∙ tree-Cat c.in-Cat.parts in
    let occurs = rw c.in-Cat.parts-is at c.remove_empty_parts.ensures in
    let some : some_part is_empty was ≡ true = sym (ap is_emptied_away is) ∙ sym c.has_empties.ensures ∙ c.if-not-has_empties.false in
    lawful_as is_emptied_away true d (Ok c.remove_empty_parts.result) (sym is) (rw (c.in-Cat.is, out-Cat) (sym (tree-Cat new)))
    (parts_lawful d c.remove_empty_parts.result was (trees new.items) some occurs)

pub returns-in_default : goal.returns-in_default
returns-in_default c d =
    let t = tree c.args.node.now in
    let other : is_cat t ≡ false = search (rules, the_lemmas, c.in_default.not-Cat) in
    whole_lawful d t t other (sym c.has_empties.ensures ∙ c.if-not-has_empties.false) c.requires
