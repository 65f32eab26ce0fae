use Rattle.std.proofs.Common.{◌≡◌, ◌+◌, arith, max, refl, sym, ap, ◌∙◌}
use Rattle.regress_program.specs.Ranges.{captured_by_all, captured_in}
use Rattle.regress_program.specs.Views.{ops_in, program_in, routine_in}
use Rattle.regress_program.proofs.FoldLemmas.{captured-stored}
use Rattle.regress_program.proofs.RangeLemmas.{drop_map-at, inner-more}
use Rattle.regress_program.proofs.inner.inner_groups.Goals as goal

pub loop-routine-preserved : goal.loop-routine-preserved
loop-routine-preserved c = λ leaves.
    let routines = c.args.routines.now in
    let i = c.loop-routine.routine-index in
    let r = c.routine-item.result in
    let ranges = c.args.ranges.now in
    let more = drop_map-at (routine_in leaves) routines i (i + 1) r c.loop-routine-test.true c.routine-item.is refl in
    let here = (c.captured_by_all.ensures leaves) ∙ ap (λ xs. captured_by_all ranges (ops_in leaves xs)) c.stored.ensures
    ∙ sym (captured-stored leaves r ranges) in
    let adds : c.max-groups.result ≡ max c.loop-routine.groups c.captured_by_all.result = grind (arith, c.max-groups.ensures) in
    inner-more ranges (program_in leaves routines) i (i + 1) (routine_in leaves r) c.loop-routine.groups c.captured_by_all.result c.max-groups.result
    (captured_in ranges (program_in leaves routines)) more here adds (c.loop-routine.invariant leaves)
