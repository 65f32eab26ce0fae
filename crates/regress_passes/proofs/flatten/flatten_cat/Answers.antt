-- `any` returns whether there is a `Cat` among the parts.
use Rattle.std.proofs.Common.{◌≡◌, ◌||◌, true, false, rules, tests, sym, ap₂, ◌∙◌}
use Rattle.std.proofs.lemmas.Iterator.{YieldsList-from_slice}
use Rattle.std.proofs.lemmas.Iterator.Search.{any_from_yields_List}
use Rattle.regress_tree.specs.Tree.{tree, trees}
use Rattle.regress_tree.specs.Shapes.{is_cat, has_cat}
use Rattle.regress_tree.proofs.lemmas.NodeLists.{some_part-any}
use Rattle.regress_passes.proofs.flatten.flatten_cat.Goals as goal

pub returns-then-not-any-clause-action : goal.returns-then-not-any-clause-action
returns-then-not-any-clause-action c =
    let parts = c.collapse.new.parts in
    let stays = c.collapse.ensures.none c.in_default.is in
    let any = any_from_yields_List (λ n. is_cat (tree n)) _ _ c.any.result c.any.ensures.ran
    (YieldsList-from_slice parts.items (search rules)) (λ x b q k. search (rules, tests)) in
    let none : has_cat (trees parts.items) ≡ false = some_part-any is_cat parts.items ∙ sym any ∙ c.if-not-any.true in
    (ap₂ ◌||◌ stays.1 (rw stays.0 at none), stays.0)

pub returns-clause-action : goal.returns-clause-action
returns-clause-action c =
    let parts = c.collapse.new.parts in
    let stays = c.collapse.ensures.none c.in_default.is in
    let any = any_from_yields_List (λ n. is_cat (tree n)) _ _ c.any.result c.any.ensures.ran
    (YieldsList-from_slice parts.items (search rules)) (λ x b q k. search (rules, tests)) in
    let some : has_cat (trees parts.items) ≡ true = some_part-any is_cat parts.items ∙ sym any ∙ c.if-not-any.false in
    (rw stays.0 at some, rw stays.0 at c.in_ok-splice.ensures.ok)
