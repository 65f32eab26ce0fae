use Rattle.std.proofs.Common.{◌∙◌, [], ◌∷◌, sym, ap}
use Rattle.regress_tree.specs.Tree.{tree, trees}
use Rattle.regress_tree.specs.Survey.{without_goal}
use Rattle.regress_tree.proofs.lemmas.Lists.{trees-append}
use Rattle.regress_tree.proofs.RootLemmas.{drop-goal, keep-last}
use Rattle.regress_tree.proofs.ir.well_formed.without_goal.Goals as goal

pub returns-then-is_goal : goal.returns-then-is_goal
returns-then-is_goal c =
    let others = c.in-Some.others.now in
    let last = c.in-Some.last.now in
    let whole = ap trees c.in-Some.ensures.cases.0 ∙ trees-append others (last ∷ []) in
    sym (ap without_goal whole ∙ drop-goal (trees others) (tree last) (sym c.if-is_goal.ensures))

pub returns-else-is_goal : goal.returns-else-is_goal
returns-else-is_goal c =
    let others = c.in-Some.others.now in
    let last = c.in-Some.last.now in
    let whole = ap trees c.in-Some.ensures.cases.0 ∙ trees-append others (last ∷ []) in
    whole ∙ sym (ap without_goal whole ∙ keep-last (trees others) (tree last) (sym c.if-is_goal.ensures))
