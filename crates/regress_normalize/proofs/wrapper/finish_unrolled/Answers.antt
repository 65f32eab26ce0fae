-- The list of parts replaces the loop, and its normal form replaces the list.
use Rattle.regress_tree.specs.Tree.{tree}
use Rattle.regress_tree.specs.Walk.{direction_of}
use Rattle.regress_rewrite.proofs.lemmas.Keeps.{IsPart-kept}
use Rattle.regress_normalize.proofs.WrapperLemmas.{list_finished, list_error}
use Rattle.regress_normalize.proofs.wrapper.finish_unrolled.Goals as goal

pub returns-in_err-list : goal.returns-in_err-list
returns-in_err-list c =
    let t = tree c.args.node.now in
    let d = direction_of c.args.walk.now in
    list_error d t (tree c.unroll.new.node) _ (c.in_err-list.ensures d) c.args.body.now c.requires.body
    c.from_residual.result c.from_residual.ensures.0

pub finish_cat-requires-clause-part : goal.finish_cat-requires-clause-part
finish_cat-requires-clause-part c =
    let d = direction_of c.args.walk.now in
    IsPart-kept d (c.in_ok-list.ensures d).keeps c.requires.part

pub finish_cat-requires-clause-parts : goal.finish_cat-requires-clause-parts
finish_cat-requires-clause-parts c = (c.in_ok-list.ensures (direction_of c.args.walk.now)).parts

pub returns : goal.returns
returns c =
    let t = tree c.args.node.now in
    let d = direction_of c.args.walk.now in
    list_finished d t (tree c.unroll.new.node) _ (c.in_ok-list.ensures d) c.args.body.now c.requires.body
    (tree c.finish_cat.new.node) c.finish_cat.result c.finish_cat.ensures
