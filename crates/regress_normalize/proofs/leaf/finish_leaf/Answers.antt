-- Each step, and all three in sequence.
use Rattle.std.proofs.Common.{sym, ◌∙◌}
use Rattle.regress_tree.specs.Tree.{tree}
use Rattle.regress_normalize.proofs.LeafLemmas.{IsPart-cleared, simplified_error, formed_error, was_one, leaf_finished}
use Rattle.regress_normalize.proofs.leaf.finish_leaf.Goals as goal

pub returns-in_err-simplify : goal.returns-in_err-simplify
returns-in_err-simplify c d = simplified_error d _ _ c.simplify.ensures.clears _ c.from_residual.ensures.0

pub returns-in_err-form : goal.returns-in_err-form
returns-in_err-form c d =
    formed_error d _ (tree c.simplify.new.node) c.simplify.ensures.clears _ c.form.ensures.clears _ c.from_residual-in_err-form.ensures.0

pub clear-requires-clause-part : goal.clear-requires-clause-part
clear-requires-clause-part c =
    IsPart-cleared _ (tree c.simplify.new.node) (tree c.form.new.node) c.form.ensures.clears
    (IsPart-cleared _ (tree c.args.node.now) (tree c.simplify.new.node) c.simplify.ensures.clears c.requires.part)

pub leaf_facts-requires-clause-one : goal.leaf_facts-requires-clause-one
leaf_facts-requires-clause-one c is =
    was_one (tree c.args.node.now) (tree c.simplify.new.node) (tree c.form.new.node) (tree c.clear.new.node) c.requires.part
    c.simplify.ensures.clears c.form.ensures.clears c.clear.ensures.clears
    (sym c.matches_exactly_one_char-was_one_character.ensures ∙ is)

pub returns : goal.returns
returns c d =
    leaf_finished (tree c.args.node.now) (tree c.simplify.new.node) (tree c.form.new.node) (tree c.clear.new.node) c.requires.part
    c.simplify.ensures.clears c.form.ensures.clears c.clear.ensures.clears d c.leaf_facts.result
    c.in_ok-simplify.ensures.removed (c.clear.ensures.formed c.in_ok-form.ensures.removed) c.clear.ensures.removed c.leaf_facts.ensures.has
    (c.leaf_facts.ensures.was ∙ c.matches_exactly_one_char-was_one_character.ensures)
