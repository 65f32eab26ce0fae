use Rattle.std.proofs.Common.{◌≡◌, ◌-◌, drop, ap, ◌∙◌, arith}
use Rattle.regress_program.specs.Ranges.{changed_by_all}
use Rattle.regress_program.specs.Views.{op_in, ops_in}
use Rattle.regress_program.proofs.RangeLemmas.{changed-more, drop_map-got}
use Rattle.regress_program.proofs.ranges.changed_by_all.Goals as goal

pub loop-i-preserved : goal.loop-i-preserved
loop-i-preserved c = λ leaves.
    let items = c.args.instructions.now in
    let next = c.loop-i.i in
    changed-more c.args.earlier.now (ops_in leaves items) (next - 1) next _ c.changed_by.result c.loop-i.range c.hull-range.result
    (drop_map-got (op_in leaves) items (next - 1) next _ (omega arith) (omega arith)) (c.changed_by.ensures leaves) (c.loop-i.invariant leaves) c.hull-range.ensures

pub returns : goal.returns
returns c = λ leaves.
    let l = c.loop-i in
    let start : l.i ≡ 0 = omega (arith, c.loop-i-test.false) in
    l.invariant leaves ∙ ap (λ k. changed_by_all c.args.earlier.now (drop k (ops_in leaves c.args.instructions.now))) start
