use Rattle.std.proofs.Common.{◌≡◌, ◌+◌, min, slice_get, take, Some, option_map, refl, ap, ◌∙◌, arith}
use Rattle.std.proofs.lemmas.List.{length-map}
use Rattle.std.proofs.lemmas.Option.{slice_get-map, slice_get_read}
use Rattle.regress_program.specs.Compiled.{total}
use Rattle.regress_program.specs.Listed.{listed}
use Rattle.regress_program.specs.Views.{op_in, program_in, routine_in}
use Rattle.regress_program.proofs.lemmas.Totals.{total-more}
use Rattle.regress_program.proofs.contents.instruction_count.Goals as goal

pub loop-routine-preserved : goal.loop-routine-preserved
loop-routine-preserved c = λ leaves.
    let routines = c.args.routines.now in
    let i = c.loop-routine.routine-index in
    let r = routine_in leaves c.routine-item.result in
    let is : slice_get (program_in leaves routines) i ≡ Some r =
    slice_get-map (routine_in leaves) routines i
    ∙ ap (option_map (routine_in leaves)) (slice_get_read routines _ i _ refl c.loop-routine-test.true c.routine-item.is) in
    let so_far : c.loop-routine.count ≡ min (total (take i (program_in leaves routines))) 18446744073709551615 = c.loop-routine.invariant leaves in
    let more : c.saturating_add-count.result ≡ min (total (take (i + 1) (program_in leaves routines))) 18446744073709551615 =
    omega (arith, length-map (listed c.routine-item.result) (op_in leaves), total-more (program_in leaves routines) i r is, so_far, c.saturating_add-count.ensures, c.len.ensures) in
    more
