use Rattle.std.proofs.Common.{sym, ap, ◌∙◌}
use Rattle.std.specs.List.{list_any}
use Rattle.regress_program.specs.Linear.{changes_captures}
use Rattle.regress_program.specs.Views.{op_in, ops_in}
use Rattle.regress_program.proofs.RangeLemmas.{get_map-got, take_map-all}
use Rattle.regress_program.proofs.lemmas.Instructions.{any-at, any-more}
use Rattle.regress_program.proofs.capturing.any_changes.Goals as goal

pub returns-then-changes_captures : goal.returns-then-changes_captures
returns-then-changes_captures c = λ leaves.
    let items = c.args.instructions.now in
    let i = c.loop-instruction.instruction-index in
    sym (any-at changes_captures (ops_in leaves items) i _ (get_map-got (op_in leaves) items i _ c.loop-instruction-test.true) (sym (c.changes_captures.ensures leaves) ∙ c.if-changes_captures.true))

pub loop-instruction-preserved : goal.loop-instruction-preserved
loop-instruction-preserved c = λ leaves.
    let items = c.args.instructions.now in
    let i = c.loop-instruction.instruction-index in
    any-more changes_captures (ops_in leaves items) i _ (get_map-got (op_in leaves) items i _ c.loop-instruction-test.true) (c.loop-instruction.invariant leaves) (sym (c.changes_captures.ensures leaves) ∙ c.if-changes_captures.false)

pub returns : goal.returns
returns c = λ leaves.
    let items = c.args.instructions.now in
    sym (ap (list_any changes_captures) (sym (take_map-all (op_in leaves) items c.loop-instruction.instruction-index c.loop-instruction-test.false))
    ∙ c.loop-instruction.invariant leaves)
