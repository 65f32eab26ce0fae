use Rattle.std.proofs.Common.{sym, ap, ◌∙◌, arith}
use Rattle.std.proofs.lemmas.List.{length-map}
use Rattle.std.proofs.lemmas.Option.{slice_get_past}
use Rattle.std.specs.List.{list_any}
use Rattle.regress_program.specs.Linear.{changes_captures, is_capturing}
use Rattle.regress_program.specs.Views.{ops_in, program_in, routine_in}
use Rattle.regress_program.proofs.FoldLemmas.{changes-stored}
use Rattle.regress_program.proofs.RangeLemmas.{get_map-got}
use Rattle.regress_program.proofs.capturing.is_capturing.Goals as goal

pub returns-then-index-routines : goal.returns-then-index-routines
returns-then-index-routines c = λ leaves.
    c.any_changes.ensures leaves ∙ ap (λ xs. list_any changes_captures (ops_in leaves xs)) c.stored.ensures ∙ sym (changes-stored leaves _)
    ∙ sym (ap is_capturing (get_map-got (routine_in leaves) c.args.routines.now c.args.index c.index-routines-index.result c.if-index-routines.true))

pub returns-else-index-routines : goal.returns-else-index-routines
returns-else-index-routines c = λ leaves.
    sym (ap is_capturing
    (slice_get_past (program_in leaves c.args.routines.now) c.args.index
    (omega (arith, length-map c.args.routines.now (routine_in leaves), c.if-index-routines.false))))
