use Rattle.std.proofs.Common.{◌≡◌, None, refl}
use Rattle.regress_match.specs.AllCosts.{CostsOfMatches}
use Rattle.regress_match.specs.Matcher.{factor_in, limit_in}
use Rattle.regress_match.specs.Memory.{AllNeedMore}
use Rattle.regress_match.specs.Pattern.{matcher_outcomes, matcher_setting, matcher_tree}
use Rattle.regress_replace.proofs.lemmas.Found.{AreAllMatches-in_order, AreAllMatches-inside}
use Rattle.regress.proofs.FaultLemmas.{if_too_much, no_steps}
use Rattle.regress.proofs.FoundLemmas.{never_none}
use Rattle.regress.proofs.search.find_all.Goals as goal

pub returns-in-Some-clause-inside : goal.returns-in-Some-clause-inside
returns-in-Some-clause-inside c = λ well_formed.
    AreAllMatches-inside (matcher_setting c.args.matcher.now) c.args.text.now c.utf8.text (matcher_tree c.args.matcher.now)
    well_formed c.in-Some.all.items (rw c.in-Some.is at c.in_ok-all.ensures.all)

pub returns-in-Some-clause-held : goal.returns-in-Some-clause-held
returns-in-Some-clause-held c = rw c.in-Some.is at c.in_ok-all.ensures.held

pub returns-in-Some-clause-order : goal.returns-in-Some-clause-order
returns-in-Some-clause-order c =
    AreAllMatches-in_order c.args.text.now (matcher_outcomes c.args.matcher.now c.args.text.now) c.in-Some.all.items
    (rw c.in-Some.is at c.in_ok-all.ensures.all)

pub returns-in-None-clause-linear : goal.returns-in-None-clause-linear
returns-in-None-clause-linear c = λ _. never_none (factor_in c.args.matcher.now c.args.text.now) _ c.in_ok-all.ensures.linear c.in-None.is

pub returns-in-None-clause-costs : goal.returns-in-None-clause-costs
returns-in-None-clause-costs c = λ _. c.in_ok-all.ensures.costs (rw c.in-None.is refl)

pub returns-in_err-all-clause-linear : goal.returns-in_err-all-clause-linear
returns-in_err-all-clause-linear c =
    no_steps (factor_in c.args.matcher.now c.args.text.now ≡ None) c.from_residual.result c.in_err-all.field-0.0 c.from_residual.ensures

pub returns-in_err-all-clause-costs : goal.returns-in_err-all-clause-costs
returns-in_err-all-clause-costs c =
    no_steps (CostsOfMatches c.args.matcher.now c.args.text.now 0 (limit_in c.args.matcher.now c.args.steps)) c.from_residual.result c.in_err-all.field-0.0
    c.from_residual.ensures

pub returns-in_err-all-clause-too_much : goal.returns-in_err-all-clause-too_much
returns-in_err-all-clause-too_much c =
    if_too_much (AllNeedMore c.args.matcher.now c.args.text.now 0) c.from_residual.result c.in_err-all.field-0.0 c.from_residual.ensures
    c.in_err-all.ensures.too_much
