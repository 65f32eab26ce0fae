use Rattle.std.proofs.Common.{ap, ◌∙◌}
use Rattle.regress_backtrack.proofs.backtracker.Backtracker.match_in.Goals as goal

pub returns-clause-solved : goal.returns-clause-solved
returns-clause-solved c = λ outs are. c.outcome_of.ensures.first _ (c.in_ok-response.ensures.solved outs are)

pub returns-clause-first : goal.returns-clause-first
returns-clause-first c = λ t pattern. c.outcome_of.ensures.first _ (c.in_ok-response.ensures.first t pattern)

pub returns-clause-unset : goal.returns-clause-unset
returns-clause-unset c = λ none.
    ap (λ m. m.captures.items) (c.outcome_of.ensures.kept none) ∙ c.in_ok-response.ensures.unset (c.outcome_of.ensures.none none)

pub returns-clause-within : goal.returns-clause-within
returns-clause-within c = λ are. c.outcome_of.ensures.within _ (c.run_at.ensures.within are)
