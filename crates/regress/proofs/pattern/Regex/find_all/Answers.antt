use Rattle.std.proofs.Common.{◌≡◌, None, Some, inl, inr, [], ◌∷◌, map, arith, subst, sym, ◌∙◌}
use Rattle.std.proofs.lemmas.Result.{err_from_is_err_and}
use Rattle.std.proofs.lemmas.List.{length-map, map-append}
use Rattle.std.specs.Vec.{vec_capacity}
use Rattle.regress_match.proofs.lemmas.Memory.{is_held, matches_need_more}
use Rattle.regress.specs.Costs.{AllCostLimit, factor_in, matcher_of}
use Rattle.regress.specs.Compiled.{groups_of, outcomes_of, match_of}
use Rattle.regress.specs.Memory.{AllNeedMore, match_bytes, memory_of}
use Rattle.regress.specs.Searched.{Advances, next_from}
use Rattle.regress.proofs.FaultLemmas.{if_too_much, no_steps}
use Rattle.regress.proofs.FoundLemmas.{HasFoundWith, all_found, begins_with, inside_each, one_more, one_more_with}
use Rattle.regress.proofs.lemmas.Paid.{HasPaid, none_paid, one_more_paid, out_of_steps, too_much_memory}
use Rattle.regress.proofs.pattern.Regex.find_all.Goals as goal

pub loop-found-init : goal.loop-found-init
loop-found-init c =
    let text = c.args.text.now in
    let at = outcomes_of c.args.self.now text in
    let groups = groups_of c.args.self.now in
    let factor = factor_in c.args.self.now text in
    let made = c.find_iter-found-items.ensures in
    record {
      has = subst (λ ms. HasFoundWith text at groups factor c.into_iter-found-iterator.result ms) (sym c.new-all.ensures.items)
          (subst (λ m. HasFoundWith text at groups factor m []) (sym c.into_iter-found-iterator.ensures.into_iter_gives)
          (begins_with text at groups factor c.find_iter-found-items.result made.text made.outcomes made.groups made.linear made.failed made.from));
      paid = subst (λ ms. HasPaid c.args.self.now text 0 c.into_iter-found-iterator.result (map match_of ms)) (sym c.new-all.ensures.items)
          (subst (λ m. HasPaid c.args.self.now text 0 m []) (sym c.into_iter-found-iterator.ensures.into_iter_gives)
          (none_paid c.args.self.now text 0 c.find_iter-found-items.result made.matcher made.text made.limit made.remaining));
      room = omega (arith, c.new-all.ensures.capacity);
    }

pub loop-found-preserved : goal.loop-found-preserved
loop-found-preserved c =
    let text = c.args.text.now in
    let at = outcomes_of c.args.self.now text in
    let factor = factor_in c.args.self.now text in
    let groups = groups_of c.args.self.now in
    let now = c.loop-found.found-iterator in
    let new = c.next.new.self in
    let step = subst (λ r. Advances now (Some r) new) c.in_ok-found.was c.in-Some.ensures.steps in
    let so_far = c.loop-found.invariant in
    record {
      has = subst (λ ms. HasFoundWith text at groups factor new ms) (sym c.in_ok-push_within.ensures.items)
          (one_more_with text at groups factor now c.loop-found.all.items so_far.has new c.in_ok-found.found step);
      paid = subst (λ ms. HasPaid c.args.self.now text 0 new (map match_of ms)) (sym c.in_ok-push_within.ensures.items)
          (subst (HasPaid c.args.self.now text 0 new) (sym (map-append match_of c.loop-found.all.items (c.in_ok-found.found ∷ [])))
          (one_more_paid c.args.self.now text 0 now (map match_of c.loop-found.all.items) so_far.paid so_far.has.found.found new
          c.in_ok-found.found step));
      room = c.in_ok-push_within.ensures.within so_far.room;
    }

pub returns-in_err-found-clause-costs : goal.returns-in_err-found-clause-costs
returns-in_err-found-clause-costs c =
    let p = err_from_is_err_and c.from_residual.result c.from_residual.ensures.1 in
    let so_far = c.loop-found.invariant in
    let now = c.loop-found.found-iterator in
    let new = c.next.new.self in
    rw p.1 (λ is. (out_of_steps c.args.self.now c.args.text.now 0 now (map match_of c.loop-found.all.items) so_far.paid so_far.has.found.found new _
    (subst (λ r. Advances now (Some r) new) c.in_err-found.was c.in-Some.ensures.steps) (sym p.2 ∙ is)).costs)

pub returns-in_err-found-clause-too_much : goal.returns-in_err-found-clause-too_much
returns-in_err-found-clause-too_much c =
    let p = err_from_is_err_and c.from_residual.result c.from_residual.ensures.1 in
    let so_far = c.loop-found.invariant in
    let now = c.loop-found.found-iterator in
    let new = c.next.new.self in
    rw p.1 (λ is. inl (too_much_memory c.args.self.now c.args.text.now 0 now (map match_of c.loop-found.all.items) so_far.paid so_far.has.found.found new _
    (subst (λ r. Advances now (Some r) new) c.in_err-found.was c.in-Some.ensures.steps) (sym p.2 ∙ is)))

pub returns-in_err-push_within-clause-linear : goal.returns-in_err-push_within-clause-linear
returns-in_err-push_within-clause-linear c =
    no_steps (factor_in c.args.self.now c.args.text.now ≡ None) c.from_residual-in_err-push_within.result c.in_err-push_within.field-0.0
    c.from_residual-in_err-push_within.ensures

pub returns-in_err-push_within-clause-costs : goal.returns-in_err-push_within-clause-costs
returns-in_err-push_within-clause-costs c =
    no_steps (AllCostLimit c.args.self.now c.args.text.now 0) c.from_residual-in_err-push_within.result c.in_err-push_within.field-0.0
    c.from_residual-in_err-push_within.ensures

pub returns-in_err-push_within-clause-too_much : goal.returns-in_err-push_within-clause-too_much
returns-in_err-push_within-clause-too_much c =
    let r = c.args.self.now in
    let text = c.args.text.now in
    let items = c.loop-found.all.items in
    let step = subst (λ x. Advances c.loop-found.found-iterator (Some x) c.next.new.self) c.in_ok-found.was c.in-Some.ensures.steps in
    let more =
    one_more text (outcomes_of r text) c.loop-found.found-iterator (map match_of items) c.loop-found.invariant.has.found c.next.new.self
    c.in_ok-found.found step in
    if_too_much (AllNeedMore r text 0) c.from_residual-in_err-push_within.result c.in_err-push_within.field-0.0 c.from_residual-in_err-push_within.ensures
    (λ is. inr (matches_need_more (matcher_of r) text 0 (next_from c.next.new.self) (map match_of items) (match_of c.in_ok-found.found) more.found
    c.most_matches-most.result (omega (arith, c.in_err-push_within.ensures.too_much is, length-map items match_of)) c.most_matches-most.ensures.most))

pub returns-clause-held : goal.returns-clause-held
returns-clause-held c =
    is_held (match_bytes c.args.self.now) (memory_of c.args.self.now) c.most_matches-most.result (vec_capacity c.loop-found.all)
    c.most_matches-most.ensures.within c.loop-found.invariant.room

pub returns-clause-all : goal.returns-clause-all
returns-clause-all c =
    all_found c.args.text.now (outcomes_of c.args.self.now c.args.text.now) c.loop-found.found-iterator
    (map match_of c.loop-found.all.items) c.loop-found.invariant.has.found c.next.new.self c.in-None.ensures.steps

pub returns-clause-inside : goal.returns-clause-inside
returns-clause-inside c = inside_each c.args.text.now c.loop-found.all.items c.loop-found.invariant.has.found.inside
