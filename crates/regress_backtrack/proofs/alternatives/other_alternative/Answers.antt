use Rattle.std.proofs.Common.{◌<◌, arith}
use Rattle.regress_backtrack.proofs.SkipLemmas.{all_skipped, skipped_cost}
use Rattle.regress_backtrack.proofs.alternatives.other_alternative.Goals as goal

pub returns-in-Some-clause-same : goal.returns-in-Some-clause-same
returns-in-Some-clause-same c = λ outs g solve.
    let some : 0 < c.in-Some.count = omega (arith, c.in-Some.count-test) in
    let skipped = c.in-Some.ensures.skipped some in
    all_skipped c.args.input.now c.requires.input c.args.place skipped.0 skipped.1 outs g solve c.args.place.pc c.in-Some.count skipped.2

pub returns-in-Some-clause-costs : goal.returns-in-Some-clause-costs
returns-in-Some-clause-costs c = λ outs costs g has.
    let some : 0 < c.in-Some.count = omega (arith, c.in-Some.count-test) in
    let skipped = c.in-Some.ensures.skipped some in
    let place = c.args.place in
    skipped_cost c.args.input.now c.requires.input place skipped.0 outs costs has g c.requires.position place.pc c.in-Some.count skipped.2
