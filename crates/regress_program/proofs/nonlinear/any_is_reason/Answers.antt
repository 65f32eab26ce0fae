use Rattle.std.proofs.Common.{sym, ◌∙◌}
use Rattle.regress_program.specs.Linear.{is_reason}
use Rattle.regress_program.specs.Views.{op_in, ops_in, program_in}
use Rattle.regress_program.proofs.RangeLemmas.{get_map-got}
use Rattle.regress_program.proofs.lemmas.Instructions.{any-at, any-more}
use Rattle.regress_program.proofs.nonlinear.any_is_reason.Goals as goal

pub returns-then-is_reason : goal.returns-then-is_reason
returns-then-is_reason c =
    let items = c.args.instructions.now in
    let i = c.loop-instruction.instruction-index in
    sym (any-at (is_reason (program_in c.args.leaves.now c.args.routines.now) c.args.why) (ops_in c.args.leaves.now items) i _ (get_map-got (op_in c.args.leaves.now) items i _ c.loop-instruction-test.true) (sym c.is_reason.ensures ∙ c.if-is_reason.true))

pub loop-instruction-preserved : goal.loop-instruction-preserved
loop-instruction-preserved c =
    let items = c.args.instructions.now in
    let i = c.loop-instruction.instruction-index in
    any-more (is_reason (program_in c.args.leaves.now c.args.routines.now) c.args.why) (ops_in c.args.leaves.now items) i _ (get_map-got (op_in c.args.leaves.now) items i _ c.loop-instruction-test.true) c.loop-instruction.invariant
    (sym c.is_reason.ensures ∙ c.if-is_reason.false)
