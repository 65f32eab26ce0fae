use Rattle.std.proofs.Common.{arith}
use Rattle.regress_backtrack.specs.Backtracker.{run_room}
use Rattle.regress_backtrack.proofs.StepLemmas.{err_map, ok_map}
use Rattle.regress_backtrack.proofs.backtracker.Backtracker.match_at.Goals as goal

pub returns-clause-costs : goal.returns-clause-costs
returns-clause-costs c =
    ok_map c.match_in.result _ _
    (λ outcome taken. λ outs costs are. (let ran = taken outs costs are in omega (arith, ran, c.saturating_sub.ensures, c.captures_cost.ensures)))
    c.match_in.ensures.costs

pub returns-clause-too_much : goal.returns-clause-too_much
returns-clause-too_much c =
    err_map c.match_in.result _ _
    (λ fault full. λ is outs costs are. (let le = full is outs costs are in omega (arith, le)))
    c.match_in.ensures.too_much

pub returns-in_err-unset_all-clause-within : goal.returns-in_err-unset_all-clause-within
returns-in_err-unset_all-clause-within c = c.unset_all.ensures.within (run_room c.args.self.now)

pub returns-clause-within : goal.returns-clause-within
returns-clause-within c = λ are. c.match_in.ensures.within (c.unset_all.ensures.within (run_room c.args.self.now) are)
