use Rattle.std.proofs.Common.{arith}
use Rattle.regress_backtrack.proofs.LeadLemmas.{none_passed}
use Rattle.regress_backtrack.proofs.lead.passed_by.Goals as goal

pub returns-then-fails_after-clause-skipped : goal.returns-then-fails_after-clause-skipped
returns-then-fails_after-clause-skipped c = λ code tables for outs solution.
    let start = c.after_optional-start in
    none_passed code tables c.args.text.now c.args.input.now for c.args.lead.now c.requires.lead outs solution
    start.result c.in_ok-end.end c.without_optional-to.result c.in_ok-end.ensures.led c.without_optional-to.ensures.high
    c.without_optional-to.ensures.required c.requires.possessive c.if-start-gt0.true (c.fails_after.ensures.next c.if-fails_after.true)
    (c.fails_after.ensures.body c.if-fails_after.true) c.args.position start.ensures.near
    (λ lt. (omega (arith, c.if-to-start.true, c.without_optional-to.ensures.high), start.ensures.other lt))
