use Rattle.std.proofs.Common.{◌∙◌, inr, sym}
use Rattle.std.proofs.lemmas.Result.{IfErr-weaker, IfOk-weaker}
use Rattle.regress_match.specs.Matcher.{IsLinear, find_factor_in}
use Rattle.regress_match.proofs.CostLemmas.{stack_needs_more}
use Rattle.regress_match.proofs.OneMatchLemmas.{all_by_one, if_none, none_by_one}
use Rattle.regress_match.proofs.matcher.Matcher.find_with.Goals as goal

pub returns-then-is_find_linear_in-clause-linear : goal.returns-then-is_find_linear_in-clause-linear
returns-then-is_find_linear_in-clause-linear c =
    IfOk-weaker c.find_in_linear_time.result _ _
    (λ found one. all_by_one c.args.self.now c.args.text.now (λ n. IsLinear n c.args.text.now found.outcome found.steps) one) c.find_in_linear_time.ensures.bounded

pub returns-else-is_find_linear_in-clause-linear : goal.returns-else-is_find_linear_in-clause-linear
returns-else-is_find_linear_in-clause-linear c =
    IfOk-weaker c.find_within.result _ _
    (λ found _. all_by_one c.args.self.now c.args.text.now _ (if_none (find_factor_in c.args.self.now c.args.text.now) _ (sym c.is_find_linear_in.ensures ∙ c.if-is_find_linear_in.false)))
    c.find_within.ensures.limited

pub returns-else-is_find_linear_in-clause-too_much : goal.returns-else-is_find_linear_in-clause-too_much
returns-else-is_find_linear_in-clause-too_much c =
    let m = c.args.self.now in
    let text = c.args.text.now in
    IfErr-weaker c.find_within.result _ _
    (λ fault fills is. inr (stack_needs_more m text c.args.from (none_by_one m text (sym c.is_find_linear_in.ensures ∙ c.if-is_find_linear_in.false)) (fills is)))
    c.find_within.ensures.too_much
