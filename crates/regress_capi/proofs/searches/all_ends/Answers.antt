use Rattle.std.proofs.Common.{Some, arith, subst, sym, ◌∙◌}
use Rattle.std.proofs.lemmas.Result.{err_from_is_err_and}
use Rattle.regress.specs.Searched.{Advances}
use Rattle.regress_capi.proofs.SearchLemmas.{HasEnds, all-ends, ends-large, ends-late, more-ends, more-than-fit, no-ends}
use Rattle.regress_capi.proofs.searches.all_ends.Goals as goal

pub loop-found-init : goal.loop-found-init
loop-found-init c =
    let made = c.find_from-found-items.ensures in
    subst (λ m. HasEnds c.args.regex.now c.args.text.now c.args.from m c.new-ends.result.items 0) (sym c.into_iter-found-iterator.ensures.into_iter_gives)
    (no-ends c.args.regex.now c.args.text.now c.args.from c.find_from-found-items.result c.new-ends.result.items made.text made.outcomes made.matcher
    made.limit made.remaining made.failed made.from c.new-ends.ensures.items)

pub loop-found-preserved : goal.loop-found-preserved
loop-found-preserved c =
    let now = c.loop-found.found-iterator in
    let new = c.next.new.self in
    more-ends c.args.regex.now c.args.text.now c.args.from now c.loop-found.ends.items c.loop-found.count c.loop-found.invariant new c.in_ok-found.found
    c.push_spans.new.ends.items (subst (λ r. Advances now (Some r) new) c.in_ok-found.was c.in-Some.ensures.steps) c.in_ok-push_spans.ensures

pub returns-clause-ends : goal.returns-clause-ends
returns-clause-ends c =
    all-ends c.args.regex.now c.args.text.now c.args.from c.loop-found.found-iterator c.loop-found.ends.items c.loop-found.count c.loop-found.invariant c.next.new.self
    c.in-None.ensures.steps

pub returns-in_err-found-clause-failed : goal.returns-in_err-found-clause-failed
returns-in_err-found-clause-failed c =
    let p = err_from_is_err_and c.from_residual.result c.from_residual.ensures.1 in
    let now = c.loop-found.found-iterator in
    let new = c.next.new.self in
    rw p.1 (λ is. ends-late c.args.regex.now c.args.text.now c.args.from now c.loop-found.ends.items c.loop-found.count c.loop-found.invariant new _
    (subst (λ r. Advances now (Some r) new) c.in_err-found.was c.in-Some.ensures.steps) (sym p.2 ∙ is))

pub returns-in_err-found-clause-too_much : goal.returns-in_err-found-clause-too_much
returns-in_err-found-clause-too_much c =
    let p = err_from_is_err_and c.from_residual.result c.from_residual.ensures.1 in
    let now = c.loop-found.found-iterator in
    let new = c.next.new.self in
    rw p.1 (λ is. ends-large c.args.regex.now c.args.text.now c.args.from now c.loop-found.ends.items c.loop-found.count c.loop-found.invariant new _
    (subst (λ r. Advances now (Some r) new) c.in_err-found.was c.in-Some.ensures.steps) (sym p.2 ∙ is))

pub returns-then-count-most-clause-too_much : goal.returns-then-count-most-clause-too_much
returns-then-count-most-clause-too_much c = λ _.
    let now = c.loop-found.found-iterator in
    let new = c.next.new.self in
    more-than-fit c.args.regex.now c.args.text.now c.args.from now c.loop-found.ends.items c.loop-found.count c.loop-found.invariant new c.in_ok-found.found
    c.most_matches-most.result (subst (λ r. Advances now (Some r) new) c.in_ok-found.was c.in-Some.ensures.steps) (omega (arith, c.if-count-most.true)) c.most_matches-most.ensures.most
