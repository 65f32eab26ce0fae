use Rattle.std.proofs.Common.{subst}
use Rattle.std.proofs.lemmas.Result.{IfErr-weaker, IfOk-weaker}
use Rattle.regress_backtrack.specs.Memory.{IsWithin}
use Rattle.regress_match.proofs.CostLemmas.{may_fill, run_tried, run_within}
use Rattle.regress_match.proofs.MatcherLemmas.{run_matches}
use Rattle.regress_match.proofs.matcher.Matcher.find_by_backtracking.Goals as goal

pub returns-clause-finds : goal.returns-clause-finds
returns-clause-finds c =
    IfOk-weaker c.find.result _ _
    (λ outcome. run_matches c.args.self.now c.args.text.now c.backtracker-backtracker.result c.args.from outcome c.backtracker-backtracker.ensures)
    c.find.ensures.solved

pub returns-clause-costs : goal.returns-clause-costs
returns-clause-costs c =
    IfOk-weaker c.find.result _ _
    (λ outcome. run_within c.args.self.now c.args.text.now c.backtracker-backtracker.result c.backtracker-backtracker.ensures c.args.from
    c.args.remaining.now c.find.new.remaining)
    c.find.ensures.costs

pub returns-clause-within : goal.returns-clause-within
returns-clause-within c =
    subst (λ room. IsWithin room c.args.cache.now → IsWithin room c.find.new.cache) c.backtracker-backtracker.ensures.room c.find.ensures.within

pub returns-clause-too_much : goal.returns-clause-too_much
returns-clause-too_much c =
    IfErr-weaker c.find.result _ _
    (λ fault full is. may_fill c.args.self.now c.args.text.now c.backtracker-backtracker.result c.backtracker-backtracker.ensures c.args.from (full is))
    c.find.ensures.too_much

pub returns-clause-tried : goal.returns-clause-tried
returns-clause-tried c =
    IfOk-weaker c.find.result _ _
    (λ outcome. run_tried c.args.self.now c.args.text.now c.backtracker-backtracker.result c.backtracker-backtracker.ensures c.args.from outcome
    c.args.remaining.now c.find.new.remaining)
    c.find.ensures.counted
