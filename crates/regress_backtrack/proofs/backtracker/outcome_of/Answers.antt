use Rattle.std.proofs.Common.{rules, ◌≡◌, ap, ◌∙◌, subst}
use Rattle.regress_found.specs.Found.{state}
use Rattle.regress_backtrack.specs.Run.{IsResponseOf}
use Rattle.regress_backtrack.proofs.SearchLemmas.{is_first}
use Rattle.regress_backtrack.proofs.backtracker.outcome_of.Goals as goal

pub returns-in-Matched-clause-first : goal.returns-in-Matched-clause-first
returns-in-Matched-clause-first c = λ states responds.
    let was : c.replace-captures.result.items ≡ c.args.machine.now.captures.items = search rules in
    is_first c.args.position c.in-Matched.end states c.args.machine.now c.new-found.result c.new-found.ensures.start
    (c.new-found.ensures.state ∙ ap (λ cs. state cs c.in-Matched.end) was)
    (subst (IsResponseOf states c.args.machine.now) c.in-Matched.is responds)
