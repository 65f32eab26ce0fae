use Rattle.std.proofs.Common.{◌≡◌, ℕ, Some, None, IfNone, IfSome, IsSome, inl, inr, ap₂, arith, refl, subst, sym, ◌∙◌}
use Rattle.std.specs.Vec.{vec_capacity}
use Rattle.std.proofs.lemmas.Result.{err_from_is_err_and}
use Rattle.regress_match.specs.Iterated.{iterated_from}
use Rattle.regress_match.specs.Matcher.{factor_in, limit_in}
use Rattle.regress_match.specs.Memory.{match_bytes, memory_of}
use Rattle.regress_match.proofs.IterationLemmas.{all_found, next_needs_more, one_more}
use Rattle.regress_match.proofs.PaidLemmas.{costs_of_matches, one_more_paid}
use Rattle.regress_match.proofs.lemmas.Iterated.{remaining-falls}
use Rattle.regress_match.proofs.lemmas.Memory.{is_held, matches_need_more}
use Rattle.regress_match.proofs.MatcherLemmas.{if_some, map_some}
use Rattle.regress_match.proofs.matcher.Matcher.find_all.Goals as goal

pub loop-matches-init : goal.loop-matches-init
loop-matches-init c = record {
  has = rw c.new-all.ensures.items (record {
    found = record {
      same_matcher = c.find_iter-matches.ensures.matcher;
      same_text = c.find_iter-matches.ensures.text;
      found = c.find_iter-matches.ensures.from;
    };
    paid = λ outs costs are. omega (arith, c.find_iter-matches.ensures.remaining);
  });
  room = omega (arith, c.new-all.ensures.capacity);
  limit = c.find_iter-matches.ensures.limit;
}

pub loop-matches-smaller : goal.loop-matches-smaller
loop-matches-smaller c =
    remaining-falls c.loop-matches.matches c.next.new.self c.in-Matched.found (rw c.in-Matched.is at c.in_ok-found.ensures.finds)
    (rw c.in-Matched.is at c.in_ok-found.ensures.goes_on) c.in_ok-found.ensures.same.text

pub loop-matches-preserved : goal.loop-matches-preserved
loop-matches-preserved c =
    let now = c.loop-matches.matches in
    let next = c.in_ok-found.ensures in
    let so_far = c.loop-matches.invariant in
    record {
      has = rw c.in_ok-push_within-in-Matched.ensures.items
          (one_more_paid _ _ now c.next.new.self c.loop-matches.all.items so_far.has next.costs c.in-Matched.found
          (one_more _ _ now c.loop-matches.all.items so_far.has.found c.next.new.self c.in-Matched.found
          (rw c.in-Matched.is at next.finds) (rw c.in-Matched.is at next.goes_on) next.same) next.same);
      room = c.in_ok-push_within-in-Matched.ensures.within so_far.room;
      limit = subst (λ k. IfNone (factor_in c.args.self.now c.args.text.now) (k ≡ limit_in c.args.self.now c.args.steps)) (sym next.same.limit) so_far.limit;
    }

pub returns-in-NoMatch : goal.returns-in-NoMatch
returns-in-NoMatch c = record {
  all = all_found _ _ c.loop-matches.matches c.loop-matches.all.items c.loop-matches.invariant.has.found (rw c.in-NoMatch.is at c.in_ok-found.ensures.finds);
  linear = if_some (factor_in c.args.self.now c.args.text.now) (IsSome (Some c.loop-matches.all)) refl;
  costs = λ none. absurd (cc);
  held =
      is_held (match_bytes c.args.self.now) (memory_of c.args.self.now) c.most_matches-most.result (vec_capacity c.loop-matches.all)
      c.most_matches-most.ensures.within c.loop-matches.invariant.room;
  too_much = tt;
}

pub returns-in-OutOfSteps-clause-linear : goal.returns-in-OutOfSteps-clause-linear
returns-in-OutOfSteps-clause-linear c =
    let spent = rw c.in-OutOfSteps.is at c.in_ok-found.ensures.linear in
    map_some (factor_in c.args.self.now c.args.text.now) ⊥ (IsSome {T = ℕ} None) (λ h. absurd h)
    (subst (λ o. IfSome o (λ _. ⊥)) (ap₂ factor_in c.loop-matches.invariant.has.found.same_matcher c.loop-matches.invariant.has.found.same_text) spent)

pub returns-in-OutOfSteps-clause-costs : goal.returns-in-OutOfSteps-clause-costs
returns-in-OutOfSteps-clause-costs c = λ _.
    let so_far = c.loop-matches.invariant in
    let next = c.in_ok-found.ensures in
    costs_of_matches c.args.self.now c.args.text.now c.loop-matches.matches c.next.new.self c.loop-matches.all.items so_far.has next.costs (limit_in c.args.self.now c.args.steps)
    so_far.limit (rw c.in-OutOfSteps.is at next.linear) (rw c.in-OutOfSteps.is at next.limited)

pub returns-in_err-found-clause-too_much : goal.returns-in_err-found-clause-too_much
returns-in_err-found-clause-too_much c =
    let p = err_from_is_err_and c.from_residual.result c.from_residual.ensures.1 in
    rw p.1 (λ is. inl (next_needs_more _ _ c.loop-matches.matches c.loop-matches.all.items c.loop-matches.invariant.has.found
    (c.in_err-found.ensures.too_much (sym p.2 ∙ is))))

pub returns-in_err-push_within-in-Matched-clause-too_much : goal.returns-in_err-push_within-in-Matched-clause-too_much
returns-in_err-push_within-in-Matched-clause-too_much c =
    let now = c.loop-matches.matches in
    let next = c.in_ok-found.ensures in
    let found =
    one_more _ _ now c.loop-matches.all.items c.loop-matches.invariant.has.found c.next.new.self c.in-Matched.found
    (rw c.in-Matched.is at next.finds) (rw c.in-Matched.is at next.goes_on) next.same in
    let p = err_from_is_err_and c.from_residual-in_err-push_within-in-Matched.result c.from_residual-in_err-push_within-in-Matched.ensures.1 in
    rw p.1 (λ is. inr (matches_need_more c.args.self.now c.args.text.now 0 (iterated_from c.next.new.self) c.loop-matches.all.items c.in-Matched.found
    found.found c.most_matches-most.result (c.in_err-push_within-in-Matched.ensures.too_much (sym p.2 ∙ is)) c.most_matches-most.ensures.most))
