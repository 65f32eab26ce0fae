use Rattle.std.proofs.Common.{arith, IfSome, subst}
use Rattle.regress_backtrack.specs.Lead.{IsLead}
use Rattle.regress_backtrack.proofs.LeadLemmas.{none_after}
use Rattle.regress_backtrack.proofs.lead.next_after.Goals as goal

pub returns-in-Some-loop_end-clause-skipped : goal.returns-in-Some-loop_end-clause-skipped
returns-in-Some-loop_end-clause-skipped c = λ code tables for outs solution none k above below.
    let input = c.args.input.now in
    let lead = c.in-Some.lead in
    none_after code tables c.args.text.now input for lead (subst (λ o. IfSome o (IsLead input)) c.in-Some.is c.requires.lead) outs solution
    c.args.position c.in-Some-loop_end.end c.without_optional.result c.in-Some-loop_end.ensures.led c.without_optional.ensures.high
    c.without_optional.ensures.required c.if-lead.false c.requires.position none k above (omega (arith, above, below, c.max.ensures))
