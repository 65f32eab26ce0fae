use Rattle.std.proofs.Common.{◌≡◌, ◌<◌, true, slice_get, Some, option_map, refl, sym, ap, ◌∙◌, arith, length}
use Rattle.std.proofs.lemmas.List.{length-map}
use Rattle.std.proofs.lemmas.Option.{slice_get-map, slice_get_read}
use Rattle.regress_leaves.specs.Subject.{subject}
use Rattle.regress_code.specs.Code.{code_routines}
use Rattle.regress_program.specs.Views.{routine_in}
use Rattle.regress_tables.specs.Table.{cell}
use Rattle.regress_tables.proofs.EvaluateLemmas.{entry_tells}
use Rattle.regress_tables.proofs.evaluate.looks.Goals as goal

pub cell-requires-clause-pc : goal.cell-requires-clause-pc
cell-requires-clause-pc c =
    let i = c.args.routine in
    let program = code_routines c.args.input.code.now in
    let view = routine_in c.args.input.code.now.program.leaves.items in
    let routines = c.args.input.code.now.program.routines.items in
    let t = c.index-input-routine.result in
    let r = c.index.result.now in
    let in_routines : i < length routines = omega (arith, c.requires.tables.few, length-map routines view, c.requires.earlier) in
    let is_t : slice_get c.args.input.tables.now i ≡ Some t = slice_get_read _ _ i t refl c.requires.earlier c.index-input-routine.is in
    let is_r : slice_get program i ≡ Some (view r) =
    slice_get-map view routines i ∙ ap (option_map view) (slice_get_read routines _ i r refl in_routines c.index.ensures) in
    let of = c.requires.tables.of i (view r) t is_r is_t in
    let entry = (c.args.input.code.now.program.is_program i (view r) is_r).entry in
    omega (arith, ap (λ x. x.width) c.index-input-routine.is, of.width, entry)

pub cell-requires-clause-position : goal.cell-requires-clause-position
cell-requires-clause-position c =
    let i = c.args.routine in
    let program = code_routines c.args.input.code.now in
    let view = routine_in c.args.input.code.now.program.leaves.items in
    let routines = c.args.input.code.now.program.routines.items in
    let t = c.index-input-routine.result in
    let r = c.index.result.now in
    let in_routines : i < length routines = omega (arith, c.requires.tables.few, length-map routines view, c.requires.earlier) in
    let is_t : slice_get c.args.input.tables.now i ≡ Some t = slice_get_read _ _ i t refl c.requires.earlier c.index-input-routine.is in
    let is_r : slice_get program i ≡ Some (view r) =
    slice_get-map view routines i ∙ ap (option_map view) (slice_get_read routines _ i r refl in_routines c.index.ensures) in
    let of = c.requires.tables.of i (view r) t is_r is_t in
    omega (arith, ap (λ x. x.length) c.index-input-routine.is, of.text, c.requires.position)

pub returns : goal.returns
returns c = λ outs right s at.
    let u = subject c.args.input.rules c.args.input.text.now in
    let i = c.args.routine in
    let program = code_routines c.args.input.code.now in
    let view = routine_in c.args.input.code.now.program.leaves.items in
    let routines = c.args.input.code.now.program.routines.items in
    let t = c.index-input-routine.result in
    let r = c.index.result.now in
    let in_routines : i < length routines = omega (arith, c.requires.tables.few, length-map routines view, c.requires.earlier) in
    let is_t : slice_get c.args.input.tables.now i ≡ Some t = slice_get_read _ _ i t refl c.requires.earlier c.index-input-routine.is in
    let is_r : slice_get program i ≡ Some (view r) =
    slice_get-map view routines i ∙ ap (option_map view) (slice_get_read routines _ i r refl in_routines c.index.ensures) in
    entry_tells u.setting u.bytes program c.args.input.tables.now outs i (view r) t s c.args.input.code.now.program.is_program c.requires.tables right is_r is_t
    (omega (arith, at, c.requires.position))
    ∙ ap (λ x. cell x r.entry true s.position) c.index-input-routine.is
    ∙ ap (cell _ _ true) at ∙ sym c.cell.ensures
