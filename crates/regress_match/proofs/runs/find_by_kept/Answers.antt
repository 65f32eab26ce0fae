use Rattle.std.proofs.Common.{rules, ◌≡◌, IfErr, sym, ◌∙◌}
use Rattle.std.proofs.lemmas.Result.{IfErr-weaker}
use Rattle.regress_backtrack.specs.Backtracker.{run_room}
use Rattle.regress_match.proofs.runs.find_by_kept.Goals as goal

pub returns-in_ok-outcome-in-None-clause-within : goal.returns-in_ok-outcome-in-None-clause-within
returns-in_ok-outcome-in-None-clause-within c = λ _.
    c.find-in-None.ensures.within (c.new-cache.ensures.within (run_room c.args.backtracker.now))

pub returns-in_err-outcome-in-None-clause-too_much : goal.returns-in_err-outcome-in-None-clause-too_much
returns-in_err-outcome-in-None-clause-too_much c =
    let the_fault : IfErr c.from_residual.result (λ fault. fault ≡ c.in_err-outcome-in-None.field-0.0) = search rules in
    IfErr-weaker c.from_residual.result _ _
    (λ fault is much. c.in_err-outcome-in-None.ensures.too_much (sym is ∙ much))
    the_fault
