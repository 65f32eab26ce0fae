use Rattle.std.proofs.Common.{arith, sym, ap, sum_by}
use Rattle.std.proofs.lemmas.Bool.{le-leb, lt-leb}
use Rattle.std.proofs.lemmas.List.{take_all}
use Rattle.std.proofs.lemmas.List.Sums.{sum_by_more, sum_by_more_le}
use Rattle.regress_rewrite.proofs.SimplifyLemmas.{size, code_point_count-sum}
use Rattle.regress_rewrite.proofs.simplify_brackets.is_small.Goals as goal

pub returns-then-count-room : goal.returns-then-count-room
returns-then-count-room c =
    let all = c.args.intervals.now in
    let so_far = sum_by_more_le size all c.loop-iv.iv-index c.iv-item.result c.loop-iv-test.true in
    let one = ap size c.iv-item.is in
    sym (lt-leb _ _ (omega (arith, so_far, one, code_point_count-sum all)))

pub loop-iv-preserved : goal.loop-iv-preserved
loop-iv-preserved c =
    let more = sum_by_more size c.args.intervals.now c.loop-iv.iv-index c.iv-item.result c.loop-iv-test.true in
    let one = ap size c.iv-item.is in
    omega (arith, more, one)

pub returns : goal.returns
returns c =
    let all = c.args.intervals.now in
    let total = ap (sum_by size) (take_all c.loop-iv.iv-index all c.loop-iv-test.false) in
    sym (le-leb _ _ (omega (arith, total, code_point_count-sum all)))
