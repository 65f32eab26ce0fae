-- `retain` keeps the parts that are not `Empty`.
use Rattle.std.proofs.Common.{not, rules, tests, ap, ◌∙◌}
use Rattle.std.proofs.lemmas.Fn.{filter_same}
use Rattle.regress_tree.specs.Tree.{tree, trees}
use Rattle.regress_tree.specs.NodeTests.{is_empty}
use Rattle.regress_rewrite.proofs.ListLemmas.{list_without-filter}
use Rattle.regress_rewrite.proofs.remove_empties.drop_empties.Goals as goal

pub returns : goal.returns
returns c =
    ap trees (filter_same _ (λ n. not (is_empty (tree n))) _ (λ x b f' k. search (rules, tests)) _ _ c.retain.ensures.filtered)
    ∙ list_without-filter is_empty c.args.parts.now.items
