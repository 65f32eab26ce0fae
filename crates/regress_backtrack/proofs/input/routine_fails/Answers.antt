use Rattle.std.proofs.Common.{◌≡◌, ◌<◌, [], Some, true, length, slice_get, option_map, refl, ap, ◌∙◌, arith}
use Rattle.std.proofs.lemmas.List.{length-map}
use Rattle.std.proofs.lemmas.Option.{slice_get-map, slice_get_read}
use Rattle.regress_tree.specs.Steps.{Setting}
use Rattle.regress_unicode.specs.TableOf.{table_of}
use Rattle.regress_found.specs.Found.{state}
use Rattle.regress_leaves.specs.Subject.{subject}
use Rattle.regress_program.specs.Program.{At, start}
use Rattle.regress_program.specs.Views.{routine_in}
use Rattle.regress_backtrack.proofs.input.routine_fails.Goals as goal

pub index-routine-requires : goal.index-routine-requires
index-routine-requires c =
    let program = c.args.input.now.code.now.program in
    omega (arith, length-map program.routines.items (routine_in program.leaves.items), c.requires)

pub returns : goal.returns
returns c = λ yes outs solve captures.
    let input = c.args.input.now in
    let code = input.code.now in
    let u = subject input.rules input.text.now in
    let leaves = code.program.leaves.items in
    let routines = code.program.routines.items in
    let i = c.args.index in
    let k = c.args.position in
    let r = c.index-routine.result.now in
    let a = c.in-Some.analysis.now in
    let lt : i < length routines = omega (arith, length-map routines (routine_in leaves), c.requires) in
    let here : slice_get routines i ≡ Some r = slice_get_read routines _ i _ refl lt c.index-routine.ensures in
    let in_program = slice_get-map (routine_in leaves) routines i ∙ ap (option_map (routine_in leaves)) here in
    let inside : r.entry < length a.next_bytes.items = omega (arith, c.if-routine-len.false, c.len.ensures) in
    let first : slice_get a.next_bytes.items r.entry ≡ Some c.index.result.now =
    slice_get_read a.next_bytes.items _ r.entry _ refl inside c.index.ensures in
    let setting : Setting = record { flags = input.rules.flags; table = table_of input.rules.known.tables.now } in
    let place : At = record { pc = r.entry; moved = true; state = state captures k; begins = [] } in
    ap (λ o. outs i (start u.setting u.bytes o (state captures k))) in_program
    ∙ c.excludes.ensures yes (outs i place)
    (code.bounded setting c.in-Some.ensures.folds u.bytes outs solve i a c.in-Some.ensures.analysis (routine_in leaves r) in_program
    r.entry c.index.result.now first place refl)
