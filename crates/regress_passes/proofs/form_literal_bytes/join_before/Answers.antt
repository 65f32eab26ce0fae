-- The two parts are in different halves of the list.
use Rattle.regress_tree.specs.Reading.{backwards}
use Rattle.regress_passes.proofs.HalvesLemmas.{first_has, second_has, halves_joined, halves_kept, on_ok_both, on_err_both}
use Rattle.regress_passes.proofs.form_literal_bytes.join_before.Goals as goal

pub append-requires-clause-part : goal.append-requires-clause-part
append-requires-clause-part c =
    let cut = c.split_at_mut-front in
    second_has c.args.parts.now cut.result.0.now cut.result.1.now c.args.earlier c.args.later c.requires cut.ensures.value
    cut.ensures.front_len c.index-front-earlier.result c.index-back-0.result

pub append-requires-clause-other : goal.append-requires-clause-other
append-requires-clause-other c =
    let cut = c.split_at_mut-front in
    first_has c.args.parts.now cut.result.0.now cut.result.1.now c.args.earlier c.args.later c.requires cut.ensures.value
    cut.ensures.front_len c.index-front-earlier.result c.index-back-0.result

pub returns-clause-ok : goal.returns-clause-ok
returns-clause-ok c =
    let cut = c.split_at_mut-front in
    on_ok_both c.append.result
    (λ both none.
    halves_joined c.args.parts.now cut.result.0.now cut.result.1.now c.args.earlier c.args.later c.requires cut.ensures.value
    cut.ensures.front_len c.index-front-earlier.result c.index-back-0.result c.append.new.other c.append.new.part backwards none both)
    c.append.ensures.ok c.append.ensures.other

pub returns-clause-err : goal.returns-clause-err
returns-clause-err c =
    let cut = c.split_at_mut-front in
    on_err_both c.append.result
    (λ same same'.
    halves_kept c.args.parts.now cut.result.0.now cut.result.1.now c.args.earlier c.args.later c.requires cut.ensures.value
    cut.ensures.front_len c.index-front-earlier.result c.index-back-0.result c.append.new.other c.append.new.part same' same)
    c.append.ensures.err c.append.ensures.err_other
