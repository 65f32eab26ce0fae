-- The steps of a repeated search are at most what its searches cost, and its errors are those of its searches.
use Rattle.std.proofs.Common.{◌≡◌, ◌∙◌, ℕ, ◌+◌, ◌-◌, ◌≤◌, List, [], ◌∷◌, ◌++◌, Some, None, IfNone, arith, subst, sym, ap₂}
use Rattle.std.specs.Prelude.{Err, Ok}
use Rattle.regress_program.specs.Cost.{Cost}
use Rattle.regress_program.specs.Program.{Out}
use Rattle.regress_found.specs.Repeated.{AreMatches}
use Rattle.regress_found.specs.declared.found.Match as matcher
use Rattle.regress_match.specs.AllCosts.{matches_cost}
use Rattle.regress_match.specs.Costs.{AreCosts, IsWithinFindCost}
use Rattle.regress_match.specs.Matcher as program
use Rattle.regress_match.specs.Memory.{NextNeedsMore, SearchNeedsMore}
use Rattle.regress_match.proofs.lemmas.Costs.{has_costs}
use Rattle.regress_match.proofs.lemmas.Matches.{matches_cost-more}
use Rattle.regress.specs.Compiled.{outcomes_of, match_of}
use Rattle.regress.specs.Costs.{AllAreTooCostly, factor_in, matcher_of, step_limit_of}
use Rattle.regress.specs.Searched.{Advances, next_from, search_limit, search_remaining, searched_matcher, searched_text}
use Rattle.regress.specs.declared.failure.SearchError.{SearchError}
use Rattle.regress.specs.declared.failure.SearchError.TheVariants.{OutOfSteps, TooMuchMemory}
use Rattle.regress.specs.declared.found.Match.{Match}
use Rattle.regress.specs.declared.pattern.Regex.{Regex}
use Rattle.regress.specs.declared.search.Matches.{Matches}

-- The search has found these matches from an offset on, and the steps that it took are at most what they cost.
pub record HasPaid (r : Regex) (text : List ℕ) (from : ℕ) (now : Matches) (ms : List matcher.Match) : Type 0 where
  pub same_matcher : searched_matcher now ≡ matcher_of r
  pub same_text : searched_text now ≡ text
  pub limit : IfNone (factor_in r text) (search_limit now ≡ step_limit_of r)
  pub paid : (outs : ℕ → Out) (costs : ℕ → Cost) → AreCosts (matcher_of r) text outs costs →
      search_limit now ≤ search_remaining now + matches_cost (matcher_of r) text costs from ms

pub none_paid : (r : Regex) (text : List ℕ) (from : ℕ) (now : Matches) → searched_matcher now ≡ matcher_of r → searched_text now ≡ text →
    IfNone (factor_in r text) (search_limit now ≡ step_limit_of r) → search_remaining now ≡ search_limit now → HasPaid r text from now []
none_paid r text from now same_matcher same_text limit all = record {
  same_matcher = same_matcher;
  same_text = same_text;
  limit = limit;
  paid = λ outs costs are. omega (arith, all);
}

module _ (r : Regex) (text : List ℕ) (from : ℕ) (now : Matches) (ms : List matcher.Match) (so_far : HasPaid r text from now ms)
    (found : AreMatches text (outcomes_of r text) from (next_from now) ms) where
  -- the cost of the next search
  next_within : (steps : ℕ) → IsWithinFindCost (searched_matcher now) (searched_text now) (next_from now) steps →
      IsWithinFindCost (matcher_of r) text (next_from now) steps
  next_within steps within =
      subst (λ m. IsWithinFindCost m text (next_from now) steps) so_far.same_matcher
      (subst (λ t. IsWithinFindCost (searched_matcher now) t (next_from now) steps) so_far.same_text within)

  pub one_more_paid : (new : Matches) (m : Match) → Advances now (Some (Ok m)) new → HasPaid r text from new (ms ++ match_of m ∷ [])
  one_more_paid new m step = record {
    same_matcher = step.same.matcher ∙ so_far.same_matcher;
    same_text = step.same.text ∙ so_far.same_text;
    limit = subst (λ k. IfNone (factor_in r text) (k ≡ step_limit_of r)) (sym step.same.limit) so_far.limit;
    paid = λ outs costs are.
        let before = so_far.paid outs costs are in
        let next = next_within (search_remaining now - search_remaining new) step.yields.0.costs outs costs are in
        let more = matches_cost-more (matcher_of r) text costs (outcomes_of r text) from (next_from now) ms (match_of m) found in
        omega (arith, before, next, more, step.same.limit);
  }

  -- a search that is out of steps
  pub out_of_steps : (new : Matches) (e : SearchError) → Advances now (Some (Err e)) new → e ≡ OutOfSteps → AllAreTooCostly r text from
  out_of_steps new e step is =
      let late = step.yields.1.steps is in
      let none : factor_in r text ≡ None = sym (ap₂ program.factor_in so_far.same_matcher so_far.same_text) ∙ late.linear in
      let limit : search_limit now ≡ step_limit_of r = subst (λ o. IfNone o (search_limit now ≡ step_limit_of r)) none so_far.limit in
      record {
        linear = none;
        costs = record {
          has = has_costs (matcher_of r) text;
          ms = ms;
          to = next_from now;
          found = found;
          cost = λ outs costs are.
              let before = so_far.paid outs costs are in
              let next = next_within (search_remaining now) late.costs outs costs are in
              omega (arith, before, next, limit);
        };
      }

  -- a search that needs too much memory
  pub too_much_memory : (new : Matches) (e : SearchError) → Advances now (Some (Err e)) new → e ≡ TooMuchMemory → NextNeedsMore (matcher_of r) text from
  too_much_memory new e step is = record {
    ms = ms;
    to = next_from now;
    found = found;
    more = subst (λ m. SearchNeedsMore m text (next_from now)) so_far.same_matcher
        (subst (λ t. SearchNeedsMore (searched_matcher now) t (next_from now)) so_far.same_text (step.yields.1.memory is));
  }
