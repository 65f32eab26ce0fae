use Rattle.std.proofs.Common.{◌≡◌, None}
use Rattle.regress_match.specs.Costs.{IsWithinFindCost}
use Rattle.regress_match.specs.Matcher.{factor_in, find_factor_in, find_limit_in}
use Rattle.regress_match.specs.Memory.{SearchNeedsMore}
use Rattle.regress.proofs.FaultLemmas.{if_too_much, no_steps}
use Rattle.regress.proofs.FoundLemmas.{never_out, costs_limit}
use Rattle.regress.proofs.search.find.Goals as goal

pub returns-in-OutOfSteps-clause-linear : goal.returns-in-OutOfSteps-clause-linear
returns-in-OutOfSteps-clause-linear c = λ _.
    never_out (factor_in c.args.matcher.now c.args.text.now) c.args.text.now _ c.in_ok-found.found.steps c.in_ok-found.ensures.linear c.in-OutOfSteps.is

pub returns-in-OutOfSteps-clause-bounded : goal.returns-in-OutOfSteps-clause-bounded
returns-in-OutOfSteps-clause-bounded c = λ _.
    never_out (find_factor_in c.args.matcher.now c.args.text.now) c.args.text.now _ c.in_ok-found.found.steps c.in_ok-found.ensures.bounded c.in-OutOfSteps.is

pub returns-in-OutOfSteps-clause-costs : goal.returns-in-OutOfSteps-clause-costs
returns-in-OutOfSteps-clause-costs c = λ _.
    let found = c.in_ok-found.ensures in
    costs_limit c.args.matcher.now c.args.text.now c.args.from (find_limit_in c.args.matcher.now c.args.steps) (find_factor_in c.args.matcher.now c.args.text.now) c.in_ok-found.found.outcome
    c.in_ok-found.found.steps found.bounded found.limited found.costs c.in-OutOfSteps.is

pub returns-in_err-found-clause-linear : goal.returns-in_err-found-clause-linear
returns-in_err-found-clause-linear c =
    no_steps (factor_in c.args.matcher.now c.args.text.now ≡ None) c.from_residual.result c.in_err-found.field-0.0 c.from_residual.ensures

pub returns-in_err-found-clause-bounded : goal.returns-in_err-found-clause-bounded
returns-in_err-found-clause-bounded c =
    no_steps (find_factor_in c.args.matcher.now c.args.text.now ≡ None) c.from_residual.result c.in_err-found.field-0.0 c.from_residual.ensures

pub returns-in_err-found-clause-costs : goal.returns-in_err-found-clause-costs
returns-in_err-found-clause-costs c =
    no_steps (IsWithinFindCost c.args.matcher.now c.args.text.now c.args.from (find_limit_in c.args.matcher.now c.args.steps)) c.from_residual.result c.in_err-found.field-0.0
    c.from_residual.ensures

pub returns-in_err-found-clause-too_much : goal.returns-in_err-found-clause-too_much
returns-in_err-found-clause-too_much c =
    if_too_much (SearchNeedsMore c.args.matcher.now c.args.text.now c.args.from) c.from_residual.result c.in_err-found.field-0.0 c.from_residual.ensures
    c.in_err-found.ensures.too_much
