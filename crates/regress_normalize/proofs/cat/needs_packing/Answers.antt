-- `any` returns whether a part is `Empty`.
use Rattle.std.proofs.Common.{◌||◌, rules, tests, sym, ap, ◌∙◌}
use Rattle.std.proofs.lemmas.Iterator.{YieldsList-from_slice}
use Rattle.std.proofs.lemmas.Iterator.Search.{any_from_yields_List}
use Rattle.regress_tree.specs.NodeTests.{is_empty}
use Rattle.regress_tree.specs.Shapes.{has_bytes, has_neighbours}
use Rattle.regress_tree.specs.Tree.{tree, trees}
use Rattle.regress_tree.proofs.lemmas.NodeLists.{some_part-any}
use Rattle.regress_normalize.proofs.cat.needs_packing.Goals as goal

pub returns-then-any : goal.returns-then-any
returns-then-any c =
    let parts = c.args.parts.now in
    let any = any_from_yields_List (λ n. is_empty (tree n)) _ _ c.any.result c.any.ensures.ran
    (YieldsList-from_slice parts (search rules)) (λ x b q k. search (rules, tests)) in
    c.if-any.true
    ∙ sym (ap (λ b. b || has_neighbours has_bytes (trees parts)) (some_part-any is_empty parts ∙ sym any ∙ c.if-any.true))

pub returns-else-any : goal.returns-else-any
returns-else-any c =
    let parts = c.args.parts.now in
    let any = any_from_yields_List (λ n. is_empty (tree n)) _ _ c.any.result c.any.ensures.ran
    (YieldsList-from_slice parts (search rules)) (λ x b q k. search (rules, tests)) in
    c.has_byte_neighbours.ensures
    ∙ sym (ap (λ b. b || has_neighbours has_bytes (trees parts)) (some_part-any is_empty parts ∙ sym any ∙ c.if-any.false))
