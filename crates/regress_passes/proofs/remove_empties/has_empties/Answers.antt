-- `any` returns whether a part is `Empty`.
use Rattle.std.proofs.Common.{sym, ◌∙◌, ap, rules, tests}
use Rattle.std.proofs.lemmas.Iterator.{YieldsList-from_slice}
use Rattle.std.proofs.lemmas.Iterator.Search.{any_from_yields_List}
use Rattle.regress_tree.specs.Tree.{tree}
use Rattle.regress_tree.specs.NodeTests.{is_empty}
use Rattle.regress_tree.specs.Shapes.{is_emptied_away}
use Rattle.regress_tree.proofs.lemmas.Nodes.{tree-Cat}
use Rattle.regress_tree.proofs.lemmas.NodeLists.{some_part-any}
use Rattle.regress_passes.proofs.remove_empties.has_empties.Goals as goal

pub returns-in-Cat : goal.returns-in-Cat
returns-in-Cat c =
    let parts = c.in-Cat.parts in
    let any = any_from_yields_List (λ n. is_empty (tree n)) _ _ c.any.result c.any.ensures.ran
    (YieldsList-from_slice parts.items (search rules)) (λ x b q k. search (rules, tests)) in
    any ∙ sym (ap is_emptied_away (ap tree c.in-Cat.is ∙ tree-Cat parts) ∙ some_part-any is_empty parts.items)
