use Rattle.std.proofs.Common.{◌≡◌, true, false, slice_get, Some, option_map, refl, sym, ap, ◌∙◌}
use Rattle.std.proofs.lemmas.Option.{slice_get-map, slice_get_read}
use Rattle.std.specs.List.{list_any}
use Rattle.regress_program.specs.Linear.{is_reason}
use Rattle.regress_program.specs.Program.{Routine}
use Rattle.regress_program.specs.Views.{ops_in, program_in, routine_in}
use Rattle.regress_program.proofs.FoldLemmas.{reason-stored}
use Rattle.regress_program.proofs.lemmas.Instructions.{any-at, any-more}
use Rattle.regress_program.proofs.nonlinear.has_reason.Goals as goal

pub returns-then-any_is_reason : goal.returns-then-any_is_reason
returns-then-any_is_reason c =
    let program = program_in c.args.leaves.now c.args.routines.now in
    let i = c.loop-routine.routine-index in
    let r = routine_in c.args.leaves.now c.routine-item.result in
    let is : slice_get program i ≡ Some r =
    slice_get-map (routine_in c.args.leaves.now) c.args.routines.now i
    ∙ ap (option_map (routine_in c.args.leaves.now)) (slice_get_read c.args.routines.now _ i _ refl c.loop-routine-test.true c.routine-item.is) in
    let here : list_any (is_reason program c.args.why) r.ops ≡ true =
    reason-stored c.args.leaves.now c.routine-item.result program c.args.why
    ∙ sym (ap (λ xs. list_any (is_reason program c.args.why) (ops_in c.args.leaves.now xs)) c.stored.ensures) ∙ sym c.any_is_reason.ensures
    ∙ c.if-any_is_reason.true in
    sym (any-at (λ (q : Routine). list_any (is_reason program c.args.why) q.ops) program i r is here)

pub loop-routine-preserved : goal.loop-routine-preserved
loop-routine-preserved c =
    let program = program_in c.args.leaves.now c.args.routines.now in
    let i = c.loop-routine.routine-index in
    let r = routine_in c.args.leaves.now c.routine-item.result in
    let is : slice_get program i ≡ Some r =
    slice_get-map (routine_in c.args.leaves.now) c.args.routines.now i
    ∙ ap (option_map (routine_in c.args.leaves.now)) (slice_get_read c.args.routines.now _ i _ refl c.loop-routine-test.true c.routine-item.is) in
    let here : list_any (is_reason program c.args.why) r.ops ≡ false =
    reason-stored c.args.leaves.now c.routine-item.result program c.args.why
    ∙ sym (ap (λ xs. list_any (is_reason program c.args.why) (ops_in c.args.leaves.now xs)) c.stored.ensures) ∙ sym c.any_is_reason.ensures
    ∙ c.if-any_is_reason.false in
    any-more (λ (q : Routine). list_any (is_reason program c.args.why) q.ops) program i r is c.loop-routine.invariant here
