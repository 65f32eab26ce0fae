-- Without a `Cat` splicing would change nothing.
use Rattle.std.proofs.Common.{rules, tests, sym, ◌∙◌}
use Rattle.std.proofs.lemmas.Iterator.{YieldsList-from_slice}
use Rattle.std.proofs.lemmas.Iterator.Search.{any_from_yields_List}
use Rattle.regress_tree.specs.Shapes.{is_cat}
use Rattle.regress_tree.specs.Tree.{tree, trees}
use Rattle.regress_rewrite.proofs.lemmas.Splicing.{spliced-same}
use Rattle.regress_tree.proofs.lemmas.NodeLists.{some_part-any}
use Rattle.regress_normalize.proofs.cat.splice_cats.Goals as goal

pub returns-then-not-any-clause-ok : goal.returns-then-not-any-clause-ok
returns-then-not-any-clause-ok c =
    let parts = c.args.parts.now.items in
    let any = any_from_yields_List (λ n. is_cat (tree n)) _ _ c.any.result c.any.ensures.ran
    (YieldsList-from_slice parts (search rules)) (λ x b q k. search (rules, tests)) in
    sym (spliced-same (trees parts) (some_part-any is_cat parts ∙ sym any ∙ c.if-not-any.true))
