use Rattle.std.proofs.Common.{◌≡◌, ◌∙◌, false, ap, rules}
use Rattle.regress_tree.specs.declared.ir.node.Node.{the_lemmas}
use Rattle.regress_tree.specs.Tree.{tree, trees}
use Rattle.regress_tree.specs.Shapes.{is_cat}
use Rattle.regress_tree.specs.NodeTests.{is_goal}
use Rattle.regress_tree.specs.Survey.{without_goal}
use Rattle.regress_tree.proofs.lemmas.Nodes.{tree-Cat}
use Rattle.regress_tree.proofs.RootLemmas.{cat-passes, cat-fails, other-passes, other-fails, MatchOption-as}
use Rattle.regress_tree.proofs.ir.well_formed.survey_root.Goals as goal

pub returns-in-Cat : goal.returns-in-Cat
returns-in-Cat c =
    let parts = c.in-Cat.parts in
    let is = ap tree c.in-Cat.is ∙ tree-Cat parts in
    let rest = c.without_goal.ensures ∙ ap (λ ns. without_goal (trees ns)) c.deref.ensures.value in
    rw is
    (MatchOption-as c.survey_parts.result _ _ _ _ (cat-fails (trees parts.items) c.args.ids.now)
    (cat-passes (trees parts.items) c.args.ids.now c.survey_parts.new.ids) (rw rest at c.survey_parts.ensures))

pub returns-in_default : goal.returns-in_default
returns-in_default c =
    let t = tree c.args.node.now in
    let no_goal : is_goal t ≡ false = search (rules, the_lemmas, c.in_default.not-Goal) in
    let no_cat : is_cat t ≡ false = search (rules, the_lemmas, c.in_default.not-Cat) in
    MatchOption-as c.survey.result _ _ _ _ (other-fails t c.args.ids.now no_goal no_cat)
    (other-passes t c.args.ids.now c.survey.new.ids) c.survey.ensures
