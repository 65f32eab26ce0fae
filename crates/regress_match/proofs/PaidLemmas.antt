-- The steps of a search for all matches are at most what its searches cost.
use Rattle.std.proofs.Common.{◌≡◌, ℕ, ◌+◌, ◌-◌, ◌≤◌, List, [], ◌∷◌, ◌++◌, Option, Some, None, IfNone, IfSome, ap₂, subst, arith}
use Rattle.regress_program.specs.Cost.{Cost}
use Rattle.regress_program.specs.Program.{Out}
use Rattle.regress_found.specs.declared.found.Match.{Match}
use Rattle.regress_match.specs.AllCosts.{CostsOfMatches, matches_cost}
use Rattle.regress_match.specs.Costs.{AreCosts, IsWithinFindCost}
use Rattle.regress_match.specs.Iterated.{IsSameIteration, iterated_from, iterated_matcher, iterated_text, step_limit, steps_remaining}
use Rattle.regress_match.specs.Matcher.{factor_in}
use Rattle.regress_match.specs.Pattern.{matcher_outcomes}
use Rattle.regress_match.specs.declared.matcher.Matcher.{Matcher}
use Rattle.regress_match.specs.declared.matcher_matches.MatcherMatches.{MatcherMatches}
use Rattle.regress_match.proofs.IterationLemmas.{HasFound}
use Rattle.regress_match.proofs.lemmas.Costs.{has_costs}
use Rattle.regress_match.proofs.lemmas.Matches.{matches_cost-more}

-- The search has found these matches, and the steps that it took are at most what they cost.
pub record HasPaid (m : Matcher) (text : List ℕ) (now : MatcherMatches) (ms : List Match) : Type 0 where
  pub found : HasFound m text now ms
  pub paid : (outs : ℕ → Out) (costs : ℕ → Cost) → AreCosts m text outs costs →
      step_limit now ≤ steps_remaining now + matches_cost m text costs 0 ms

-- the cost of the next search
here : (m : Matcher) (text : List ℕ) (now : MatcherMatches) (steps : ℕ) → iterated_matcher now ≡ m → iterated_text now ≡ text →
    IsWithinFindCost (iterated_matcher now) (iterated_text now) (iterated_from now) steps → IsWithinFindCost m text (iterated_from now) steps
here m text now steps matcher same within =
    subst (λ m. IsWithinFindCost m text (iterated_from now) steps) matcher
    (subst (λ t. IsWithinFindCost (iterated_matcher now) t (iterated_from now) steps) same within)

module _ (m : Matcher) (text : List ℕ) (now new : MatcherMatches) (ms : List Match) (so_far : HasPaid m text now ms)
    (within : IsWithinFindCost (iterated_matcher now) (iterated_text now) (iterated_from now) (steps_remaining now - steps_remaining new)) where
  pub one_more_paid : (x : Match) → HasFound m text new (ms ++ x ∷ []) → IsSameIteration now new → HasPaid m text new (ms ++ x ∷ [])
  one_more_paid x found same = record {
    found = found;
    paid = λ outs costs are.
        let before = so_far.paid outs costs are in
        let next = here m text now (steps_remaining now - steps_remaining new) so_far.found.same_matcher so_far.found.same_text within outs costs are in
        let more = matches_cost-more m text costs (matcher_outcomes m text) 0 (iterated_from now) ms x so_far.found.found in
        omega (arith, before, next, more, same.limit);
  }

  -- a search that is out of steps
  pub costs_of_matches : (steps : ℕ) → IfNone (factor_in m text) (step_limit now ≡ steps) → IfSome (factor_in (iterated_matcher now) (iterated_text now)) (λ _. ⊥) →
      IfNone (factor_in (iterated_matcher now) (iterated_text now)) (steps_remaining new ≡ 0) → CostsOfMatches m text 0 steps
  costs_of_matches steps limit never all =
      by (factor_in m text) limit (subst (λ o. IfSome o (λ _. ⊥)) same never) (subst (λ o. IfNone o (steps_remaining new ≡ 0)) same all)
    where
      same : factor_in (iterated_matcher now) (iterated_text now) ≡ factor_in m text
      same = ap₂ factor_in so_far.found.same_matcher so_far.found.same_text

      by : (o : Option ℕ) → IfNone o (step_limit now ≡ steps) → IfSome o (λ _. ⊥) → IfNone o (steps_remaining new ≡ 0) → CostsOfMatches m text 0 steps
      by (Some n) limit never all = absurd never
      by None limit never all = record {
        has = has_costs m text;
        ms = ms;
        to = iterated_from now;
        found = so_far.found.found;
        cost = λ outs costs are.
            let before = so_far.paid outs costs are in
            let next = here m text now (steps_remaining now - steps_remaining new) so_far.found.same_matcher so_far.found.same_text within outs costs are in
            omega (arith, before, next, limit, all);
      }
