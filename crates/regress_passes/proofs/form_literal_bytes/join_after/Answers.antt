-- The two parts are in different halves of the list.
use Rattle.std.proofs.Common.{◌-◌, ◌∙◌, ap}
use Rattle.regress_tree.specs.Reading.{forwards}
use Rattle.regress_tree.specs.Tree.{tree}
use Rattle.regress_passes.proofs.HalvesLemmas.{first_has, second_has, halves_joined, halves_kept, on_err_from}
use Rattle.regress_passes.proofs.form_literal_bytes.join_after.Goals as goal

pub append-requires-clause-part : goal.append-requires-clause-part
append-requires-clause-part c =
    let cut = c.split_at_mut-front in
    first_has c.args.parts.now cut.result.0.now cut.result.1.now (c.args.later - 1) c.args.later c.requires cut.ensures.value
    cut.ensures.front_len c.index-front-later.result c.index-back-0.result

pub append-requires-clause-other : goal.append-requires-clause-other
append-requires-clause-other c =
    let cut = c.split_at_mut-front in
    second_has c.args.parts.now cut.result.0.now cut.result.1.now (c.args.later - 1) c.args.later c.requires cut.ensures.value
    cut.ensures.front_len c.index-front-later.result c.index-back-0.result

pub returns-in_err-append-clause-err : goal.returns-in_err-append-clause-err
returns-in_err-append-clause-err c =
    let cut = c.split_at_mut-front in
    on_err_from c.from_residual.result
    (halves_kept c.args.parts.now cut.result.0.now cut.result.1.now (c.args.later - 1) c.args.later c.requires cut.ensures.value
    cut.ensures.front_len c.index-front-later.result c.index-back-0.result c.append.new.part c.append.new.other
    c.in_err-append.ensures.err c.in_err-append.ensures.err_other)

pub returns-clause-ok : goal.returns-clause-ok
returns-clause-ok c =
    let cut = c.split_at_mut-front in
    halves_joined c.args.parts.now cut.result.0.now cut.result.1.now (c.args.later - 1) c.args.later c.requires cut.ensures.value
    cut.ensures.front_len c.index-front-later.result c.index-back-0.result c.swap.new.x c.swap.new.y forwards
    (ap tree c.swap.ensures.x_after ∙ c.in_ok-append.ensures.other)
    (ap tree c.swap.ensures.y_after ∙ c.in_ok-append.ensures.ok)
