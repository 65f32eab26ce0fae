use Rattle.std.proofs.Common.{rules, arith, ◌≡◌, ◌-◌, ◌∙◌, sym, subst}
use Rattle.std.proofs.lemmas.Result.{IfOk-weaker}
use Rattle.regress_match.specs.Costs.{IsWithinFindCost}
use Rattle.regress_match.specs.Iterated.{iterated_from, iterated_matcher, iterated_text, steps_remaining}
use Rattle.regress_match.proofs.CostLemmas.{within_both}
use Rattle.regress_match.proofs.SpentLemmas.{Spends-trans, made_counted, matched_weaker, runs_counted, tables_counted}
use Rattle.regress_match.proofs.matcher_matches.MatcherMatches.next.Goals as goal

pub returns-in_ok-make_tables-in-OutOfSteps-clause-costs : goal.returns-in_ok-make_tables-in-OutOfSteps-clause-costs
returns-in_ok-make_tables-in-OutOfSteps-clause-costs c =
    let old = c.args.self.now in
    let looked = c.skip_to_end.ensures in
    let same : steps_remaining c.find_in_tables-in-OutOfSteps.new.self ≡ steps_remaining c.backtrack_before_tables.new.self =
    c.find_in_tables-in-OutOfSteps.ensures.remaining ∙ c.in_ok-make_tables-in-OutOfSteps.ensures.remaining in
    IfOk-weaker c.find_in_tables-in-OutOfSteps.result _ _
    (λ _ _.
    subst (λ k. IsWithinFindCost (iterated_matcher old) (iterated_text old) (iterated_from old) (steps_remaining old - k)) (sym same)
    (within_both old c.skip_to_end.new.self (steps_remaining c.backtrack_before_tables.new.self) looked.same (looked.stays c.if-skip_to_end.false) looked.costs
    c.in_ok-outcome.ensures.costs))
    c.find_in_tables-in-OutOfSteps.ensures.finds

pub returns-in_default : goal.returns-in_default
returns-in_default c =
    let looked = c.skip_to_end.ensures in
    record {
      finds = search rules;
      inside = search rules;
      goes_on = search rules;
      stays = tt;
      same = search rules;
      linear = search rules;
      limited = search rules;
      costs = within_both c.args.self.now c.skip_to_end.new.self (steps_remaining c.backtrack_before_tables.new.self) looked.same
          (looked.stays c.if-skip_to_end.false) looked.costs c.in_ok-outcome.ensures.costs;
      spent = Spends-trans _ _ _ looked.spent c.in_ok-outcome.ensures.spent;
      counted = matched_weaker _ _ _
          (λ m ran. runs_counted c.args.self.now c.skip_to_end.new.self c.backtrack_before_tables.new.self m c.args.self.now.within looked.same
          c.in_ok-outcome.ensures.same (looked.stays c.if-skip_to_end.false) looked.spent looked.searched c.in_ok-outcome.ensures.searched ran)
          c.in_ok-outcome.ensures.tried;
      too_much = tt;
    }

pub returns-in_ok-make_tables-in-OutOfSteps-clause-spent : goal.returns-in_ok-make_tables-in-OutOfSteps-clause-spent
returns-in_ok-make_tables-in-OutOfSteps-clause-spent c =
    Spends-trans _ _ _ c.skip_to_end.ensures.spent
    (Spends-trans _ _ _ c.in_ok-outcome.ensures.spent
    (Spends-trans _ _ _ c.in_ok-make_tables-in-OutOfSteps.ensures.spent c.find_in_tables-in-OutOfSteps.ensures.spent))

pub returns-in_ok-make_tables-in-OutOfSteps-clause-counted : goal.returns-in_ok-make_tables-in-OutOfSteps-clause-counted
returns-in_ok-make_tables-in-OutOfSteps-clause-counted c =
    let old = c.args.self.now in
    let looked = c.skip_to_end.ensures in
    let ran = c.in_ok-outcome.ensures in
    let made = c.in_ok-make_tables-in-OutOfSteps.ensures in
    let found = c.find_in_tables-in-OutOfSteps.ensures in
    let limit = found.same.limit ∙ made.same.limit ∙ ran.same.limit ∙ looked.same.limit in
    let from = made.from ∙ (rw c.in-OutOfSteps.is at ran.goes_on) ∙ looked.stays c.if-skip_to_end.false in
    IfOk-weaker c.find_in_tables-in-OutOfSteps.result _ _
    (λ outcome tried. matched_weaker outcome _ _
    (λ m counted. made_counted old c.make_tables.new.self c.find_in_tables-in-OutOfSteps.new.self m old.within limit
    (made.same.matcher ∙ ran.same.matcher ∙ looked.same.matcher) (made.same.text ∙ ran.same.text ∙ looked.same.text) from
    (omega (arith, found.remaining, made.remaining, ran.spent.remaining, looked.spent.remaining))
    (omega (arith, looked.searched, ran.searched, made.spent.taken, made.remaining, made.same.limit)) counted)
    tried) found.tried

pub returns-then-is_some-clause-counted : goal.returns-then-is_some-clause-counted
returns-then-is_some-clause-counted c =
    let found = c.find_in_tables.ensures in
    IfOk-weaker c.find_in_tables.result _ _
    (λ outcome tried. matched_weaker outcome _ _
    (λ m ran. tables_counted c.args.self.now c.find_in_tables.new.self m found.same found.remaining ran) tried) found.tried
