use Rattle.std.proofs.Common.{◌≡◌, ◌+◌, refl, sym, ap₂, ◌∙◌}
use Rattle.regress_program.specs.Ranges.{changed_by_all, ranges_of}
use Rattle.regress_program.specs.Views.{ops_in, program_in, routine_in}
use Rattle.regress_program.proofs.FoldLemmas.{changed-stored}
use Rattle.regress_program.proofs.RangeLemmas.{drop_map-at, ranges-more}
use Rattle.regress_program.proofs.ranges.ranges_of.Goals as goal

pub loop-routine-preserved : goal.loop-routine-preserved
loop-routine-preserved c = λ leaves.
    let routines = c.args.routines.now in
    let i = c.loop-routine.routine-index in
    let r = c.routine-item.result in
    let before = c.loop-routine.ranges.items in
    let more = drop_map-at (routine_in leaves) routines i (i + 1) r c.loop-routine-test.true c.routine-item.is refl in
    let range = c.changed_by_all-range.result in
    let here : range ≡ changed_by_all before (routine_in leaves r).ops =
    (c.changed_by_all-range.ensures leaves)
    ∙ ap₂ (λ xs instructions. changed_by_all xs (ops_in leaves instructions)) c.deref.ensures.value c.stored.ensures
    ∙ sym (changed-stored leaves r before) in
    ranges-more (program_in leaves routines) i (i + 1) (routine_in leaves r) before c.push.new.self.items (ranges_of (program_in leaves routines)) range more here
    c.in_ok-push.ensures.items (c.loop-routine.invariant leaves)
