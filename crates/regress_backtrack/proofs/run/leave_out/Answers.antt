use Rattle.regress_backtrack.specs.Machine.{groups_of}
use Rattle.regress_backtrack.specs.Next.{Inside}
use Rattle.regress_backtrack.proofs.LeaveLemmas.{left_out_all, left_out_cost, left_out_fewer, left_out_outcomes}
use Rattle.regress_backtrack.proofs.run.leave_out.Goals as goal

pub returns-in-Some-clause-leads : goal.returns-in-Some-clause-leads
returns-in-Some-clause-leads c = λ outs solve.
    let m = c.args.machine.now in
    let first = c.in-Some.first in
    let more = c.in-Some.more in
    let kept = c.points_that_may_match-kept in
    left_out_outcomes m c.keep_range.new.self first more kept.result kept.ensures.within
    (c.keep_range.ensures.shortened more c.in-Some.ensures.latest) (outs c.args.input.now.index)
    (λ k lt le. kept.ensures.fails k lt le outs (groups_of m) solve)

pub returns-in-Some-clause-inside : goal.returns-in-Some-clause-inside
returns-in-Some-clause-inside c =
    let kept = c.points_that_may_match-kept in
    left_out_all c.args.machine.now c.keep_range.new.self c.in-Some.first c.in-Some.more kept.result kept.ensures.within
    (c.keep_range.ensures.shortened c.in-Some.more c.in-Some.ensures.latest) (Inside c.args.input.now)

pub returns-in-Some-clause-costs : goal.returns-in-Some-clause-costs
returns-in-Some-clause-costs c =
    let kept = c.points_that_may_match-kept in
    left_out_cost c.args.machine.now c.keep_range.new.self c.in-Some.first c.in-Some.more kept.result kept.ensures.within
    (c.keep_range.ensures.shortened c.in-Some.more c.in-Some.ensures.latest)

pub returns-in-Some-clause-fewer : goal.returns-in-Some-clause-fewer
returns-in-Some-clause-fewer c =
    let kept = c.points_that_may_match-kept in
    left_out_fewer c.args.machine.now c.keep_range.new.self c.in-Some.first c.in-Some.more kept.result kept.ensures.within
    (c.keep_range.ensures.shortened c.in-Some.more c.in-Some.ensures.latest)
