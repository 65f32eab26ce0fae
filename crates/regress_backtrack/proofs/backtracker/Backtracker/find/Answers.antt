use Rattle.std.proofs.Common.{arith}
use Rattle.regress_backtrack.proofs.StepLemmas.{err_map, ok_map}
use Rattle.regress_backtrack.proofs.backtracker.Backtracker.find.Goals as goal

pub returns-clause-costs : goal.returns-clause-costs
returns-clause-costs c =
    ok_map c.run_from.result _ _
    (λ outcome taken. λ outs costs are. (let ran = taken outs costs are in omega (arith, ran, c.saturating_sub.ensures, c.captures_cost.ensures)))
    c.run_from.ensures.costs

pub returns-clause-too_much : goal.returns-clause-too_much
returns-clause-too_much c =
    err_map c.run_from.result _ _
    (λ fault full. λ is outs costs are. (let le = full is outs costs are in omega (arith, le)))
    c.run_from.ensures.too_much
