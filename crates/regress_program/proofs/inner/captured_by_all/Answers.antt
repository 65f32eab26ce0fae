use Rattle.std.proofs.Common.{◌≡◌, ◌+◌, arith, max, refl, ap}
use Rattle.regress_program.specs.Ranges.{captured_by_all}
use Rattle.regress_program.specs.Views.{op_in, ops_in}
use Rattle.regress_program.proofs.RangeLemmas.{captured-more, drop_map-all, drop_map-got}
use Rattle.regress_program.proofs.inner.captured_by_all.Goals as goal

pub loop-instruction-preserved : goal.loop-instruction-preserved
loop-instruction-preserved c = λ leaves.
    let items = c.args.instructions.now in
    let i = c.loop-instruction.instruction-index in
    let ranges = c.args.ranges.now in
    let adds : c.max-groups.result ≡ max c.loop-instruction.groups c.captured_by.result = grind (arith, c.max-groups.ensures) in
    captured-more ranges (ops_in leaves items) i (i + 1) _ c.loop-instruction.groups c.captured_by.result c.max-groups.result
    (captured_by_all ranges (ops_in leaves items)) (drop_map-got (op_in leaves) items i (i + 1) _ c.loop-instruction-test.true refl) (c.captured_by.ensures leaves) adds (c.loop-instruction.invariant leaves)

pub returns : goal.returns
returns c = λ leaves.
    let l = c.loop-instruction in
    let ranges = c.args.ranges.now in
    let none = drop_map-all (op_in leaves) c.args.instructions.now l.instruction-index c.loop-instruction-test.false in
    omega (arith, l.invariant leaves, ap (captured_by_all ranges) none)
