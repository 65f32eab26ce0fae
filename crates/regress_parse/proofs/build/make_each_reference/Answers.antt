use Rattle.std.proofs.Common.{◌≡◌, ◌++◌, List, [], ◌∷◌, map, sym, ap, ap₂, ◌∙◌, get_or}
use Rattle.std.proofs.lemmas.List.{map_more, map_push}
use Rattle.regress_tree.specs.Tree.{Tree, tree, leaf, back_ref}
use Rattle.regress_tree.proofs.lemmas.Nodes.{tree-BackRef}
use Rattle.regress_parse.proofs.build.make_each_reference.Goals as goal

pub loop-group-preserved : goal.loop-group-preserved
loop-group-preserved c =
    let i = c.loop-group.group-index in
    let groups = c.args.groups.now in
    ap (map tree) c.in_ok-push.ensures.items
    ∙ map_push tree c.loop-group.references.items _
    ∙ ap₂ (λ (trees : List Tree) (t : Tree). trees ++ t ∷ []) c.loop-group.invariant (tree-BackRef (get_or groups i 0) c.args.icase)
    ∙ sym (map_more (λ k. leaf (back_ref k c.args.icase)) groups i 0 c.loop-group-test.true)
