use Rattle.std.proofs.Common.{◌<◌, Some, inl, inr, [], ◌∷◌, ap, length-append, length, subst, sym, ◌∙◌, arith}
use Rattle.std.proofs.lemmas.Result.{err_from_is_err_and}
use Rattle.std.specs.Vec.{vec_capacity}
use Rattle.regress_match.proofs.lemmas.Memory.{is_held, matches_need_more}
use Rattle.regress.specs.Compiled.{match_of, outcomes_of}
use Rattle.regress.specs.Costs.{matcher_of}
use Rattle.regress.specs.Memory.{AllNeedMore, match_bytes, memory_of}
use Rattle.regress.specs.Searched.{Advances, next_from}
use Rattle.regress.proofs.FaultLemmas.{if_too_much}
use Rattle.regress.proofs.FoundLemmas.{HasFound, fewer_found, in_order, one_more}
use Rattle.regress.proofs.lemmas.Paid.{HasPaid, one_more_paid, out_of_steps, too_much_memory}
use Rattle.regress.proofs.pattern.Regex.first_matches.Goals as goal

pub loop-matches-preserved : goal.loop-matches-preserved
loop-matches-preserved c =
    let text = c.args.text.now in
    let at = outcomes_of c.args.self.now text in
    let now = c.loop-matches.matches in
    let new = c.next.new.self in
    let few : length c.loop-matches.first.items < c.args.count = omega (arith, c.loop-matches-test.true, c.len.ensures) in
    let step = subst (λ r. Advances now (Some r) new) c.in_ok-found-in-Some.was c.in-Some.ensures.steps in
    let so_far = c.loop-matches.invariant in
    record {
      found = subst (λ ms. HasFound text at new ms) (sym c.in_ok-push_within-in-Some.ensures.items)
          (one_more text at now c.loop-matches.first.items so_far.found new c.in_ok-found-in-Some.field-0 step);
      paid = subst (HasPaid c.args.self.now text 0 new) (sym c.in_ok-push_within-in-Some.ensures.items)
          (one_more_paid c.args.self.now text 0 now c.loop-matches.first.items so_far.paid so_far.found.found new c.in_ok-found-in-Some.field-0 step);
      few = omega (arith, few, ap length c.in_ok-push_within-in-Some.ensures.items, length-append c.loop-matches.first.items (match_of c.in_ok-found-in-Some.field-0 ∷ []));
      room = c.in_ok-push_within-in-Some.ensures.within so_far.room;
    }

pub returns-clause-held : goal.returns-clause-held
returns-clause-held c =
    is_held (match_bytes c.args.self.now) (memory_of c.args.self.now) c.most_matches-most.result (vec_capacity c.loop-matches.first)
    c.most_matches-most.ensures.within c.loop-matches.invariant.room

pub returns-in-None-clause-held : goal.returns-in-None-clause-held
returns-in-None-clause-held c =
    is_held (match_bytes c.args.self.now) (memory_of c.args.self.now) c.most_matches-most.result (vec_capacity c.loop-matches.first)
    c.most_matches-most.ensures.within c.loop-matches.invariant.room

pub returns-in_err-found-in-Some-clause-costs : goal.returns-in_err-found-in-Some-clause-costs
returns-in_err-found-in-Some-clause-costs c =
    let p = err_from_is_err_and c.from_residual.result c.from_residual.ensures.1 in
    let so_far = c.loop-matches.invariant in
    let now = c.loop-matches.matches in
    let new = c.next.new.self in
    rw p.1 (λ is. (out_of_steps c.args.self.now c.args.text.now 0 now c.loop-matches.first.items so_far.paid so_far.found.found new _
    (subst (λ r. Advances now (Some r) new) c.in_err-found-in-Some.was c.in-Some.ensures.steps) (sym p.2 ∙ is)).costs)

pub returns-in_err-found-in-Some-clause-too_much : goal.returns-in_err-found-in-Some-clause-too_much
returns-in_err-found-in-Some-clause-too_much c =
    let p = err_from_is_err_and c.from_residual.result c.from_residual.ensures.1 in
    let so_far = c.loop-matches.invariant in
    let now = c.loop-matches.matches in
    let new = c.next.new.self in
    rw p.1 (λ is. inl (too_much_memory c.args.self.now c.args.text.now 0 now c.loop-matches.first.items so_far.paid so_far.found.found new _
    (subst (λ r. Advances now (Some r) new) c.in_err-found-in-Some.was c.in-Some.ensures.steps) (sym p.2 ∙ is)))

pub returns-in_err-push_within-in-Some-clause-too_much : goal.returns-in_err-push_within-in-Some-clause-too_much
returns-in_err-push_within-in-Some-clause-too_much c =
    let r = c.args.self.now in
    let text = c.args.text.now in
    let items = c.loop-matches.first.items in
    let found = c.in_ok-found-in-Some.field-0 in
    let step = subst (λ x. Advances c.loop-matches.matches (Some x) c.next.new.self) c.in_ok-found-in-Some.was c.in-Some.ensures.steps in
    let more = one_more text (outcomes_of r text) c.loop-matches.matches items c.loop-matches.invariant.found c.next.new.self found step in
    if_too_much (AllNeedMore r text 0) c.from_residual-in_err-push_within-in-Some.result c.in_err-push_within-in-Some.field-0.0
    c.from_residual-in_err-push_within-in-Some.ensures
    (λ is. inr (matches_need_more (matcher_of r) text 0 (next_from c.next.new.self) items (match_of found) more.found
    c.most_matches-most.result (c.in_err-push_within-in-Some.ensures.too_much is) c.most_matches-most.ensures.most))

pub returns-in-None-clause-first : goal.returns-in-None-clause-first
returns-in-None-clause-first c =
    fewer_found c.args.text.now (outcomes_of c.args.self.now c.args.text.now) c.loop-matches.matches c.loop-matches.first.items
    c.loop-matches.invariant.found c.args.count (omega (arith, c.loop-matches-test.true, c.len.ensures)) c.next.new.self c.in-None.ensures.steps

pub returns-in-None-clause-order : goal.returns-in-None-clause-order
returns-in-None-clause-order c =
    in_order c.args.text.now (outcomes_of c.args.self.now c.args.text.now) c.loop-matches.matches c.loop-matches.first.items
    c.loop-matches.invariant.found

pub returns-clause-order : goal.returns-clause-order
returns-clause-order c =
    in_order c.args.text.now (outcomes_of c.args.self.now c.args.text.now) c.loop-matches.matches c.loop-matches.first.items
    c.loop-matches.invariant.found
