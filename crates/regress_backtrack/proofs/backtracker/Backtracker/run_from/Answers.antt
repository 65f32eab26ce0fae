use Rattle.std.proofs.Common.{rules, arith, ◌≡◌, ◌≤◌, ◌<◌, ◌+◌, ℕ, [], length, sym, ◌∙◌, subst, IfErr, IfSome, MatchOption, Option, Some}
use Rattle.regress_found.specs.Found.{NoneBefore}
use Rattle.regress_program.specs.Program.{Out}
use Rattle.regress_program.proofs.lemmas.Solutions.{solution}
use Rattle.regress_code.specs.Code.{code_routines, setting_with}
use Rattle.regress_backtrack.specs.Backtracker.{AreOutcomes, IfGoesOn, IsAttempt, cost_at, outcomes_at, run_code, run_room, run_tables, run_text}
use Rattle.regress_found.specs.declared.outcome.Outcome.TheVariants as outcomes
use Rattle.regress_backtrack.proofs.CandidateLemmas.{none_after, none_before, none_on}
use Rattle.regress_backtrack.proofs.CostLemmas.{one_tried, searched, tried_on}
use Rattle.regress_backtrack.proofs.SearchLemmas.{found_leftmost, none_more, tree_finds}
use Rattle.regress_backtrack.proofs.StepLemmas.{err_map}
use Rattle.regress_backtrack.proofs.backtracker.Backtracker.run_from.Goals as goal

pub loop-start-init : goal.loop-start-init
loop-start-init c = record {
  unset = c.in_ok-unset_all.ensures.captures;
  lead = tt;
  from = omega arith;
  on = omega arith;
  remaining = omega arith;
  counted = omega arith;
  solved = search rules;
  costs = λ outs costs are. omega arith;
  within = c.unset_all.ensures.within (run_room c.args.self.now);
  enough = λ outs costs are. omega arith;
}

-- the position that is tried is inside the text, and not before the start
tried_within : (result : Option ℕ) (start k n : ℕ) → result ≡ Some k → IfSome result (λ (p : ℕ). (start ≤ p) × (p ≤ n)) → (start ≤ k) × (k ≤ n)
tried_within result start k n is within = subst (λ r. IfSome r (λ (p : ℕ). (start ≤ p) × (p ≤ n))) is within

pub attempt-requires : goal.attempt-requires
attempt-requires c =
    let within = tried_within _ _ _ _ c.in-Some.is c.next_start.ensures.within in
    record {
      lead = c.loop-start.invariant.lead;
      unset = c.loop-start.invariant.unset;
      position = within.1;
    }

pub returns-clause-solved : goal.returns-clause-solved
returns-clause-solved c = λ outs are p low on. c.loop-start.invariant.solved outs are p low (omega (arith, on.0, c.loop-start-test.false)) on

pub returns-clause-finds : goal.returns-clause-finds
returns-clause-finds c = tree_finds c.args.self.now c.args.from outcomes.NoMatch (returns-clause-solved c)

pub returns-in_default-clause-solved : goal.returns-in_default-clause-solved
returns-in_default-clause-solved c = λ outs are.
    let a = c.args.self.now in
    none_after (run_text a) (outcomes_at a outs) c.args.from c.loop-start.start (c.loop-start.invariant.solved outs are)
    (λ k low le. c.next_start.ensures.skipped outs are k low le (subst (λ r. MatchOption r Unit (λ p. k < p)) (sym c.in_default.is) tt))

pub returns-in_default-clause-finds : goal.returns-in_default-clause-finds
returns-in_default-clause-finds c = tree_finds c.args.self.now c.args.from outcomes.NoMatch (returns-in_default-clause-solved c)

pub returns-in-Matched-clause-solved : goal.returns-in-Matched-clause-solved
returns-in-Matched-clause-solved c = λ outs are.
    let a = c.args.self.now in
    let k = c.in-Some.position in
    let attempt = subst (IsAttempt a k) c.in-Matched.is c.in_ok-found.ensures.attempt in
    let within = tried_within _ _ _ _ c.in-Some.is c.next_start.ensures.within in
    found_leftmost (run_text a) (outcomes_at a outs) c.args.from k c.in-Matched.found (omega (arith, c.loop-start.invariant.from, c.loop-start.invariant.on, within.0)) attempt.0
    (attempt.1 outs are)
    (none_before (run_text a) (outcomes_at a outs) c.args.from c.loop-start.start (c.loop-start.invariant.solved outs are) k
    (λ p low le lt. c.next_start.ensures.skipped outs are p low le (subst (λ r. MatchOption r Unit (λ q. p < q)) (sym c.in-Some.is) lt)))

pub returns-in-Matched-clause-finds : goal.returns-in-Matched-clause-finds
returns-in-Matched-clause-finds c =
    tree_finds c.args.self.now c.args.from (outcomes.Matched c.in-Matched.found) (returns-in-Matched-clause-solved c)

pub loop-start-preserved-in-Failed : goal.loop-start-preserved-in-Failed
loop-start-preserved-in-Failed c =
    let a = c.args.self.now in
    let text = run_text a in
    let k = c.in-Some.position in
    let so_far = c.loop-start.invariant in
    let within = tried_within _ _ _ _ c.in-Some.is c.next_start.ensures.within in
    let before : (outs : ℕ → Out) → AreOutcomes a outs → NoneBefore text (outcomes_at a outs) c.args.from k = λ outs are.
    none_before text (outcomes_at a outs) c.args.from c.loop-start.start (so_far.solved outs are) k
    (λ p low le lt. c.next_start.ensures.skipped outs are p low le (subst (λ r. MatchOption r Unit (λ q. p < q)) (sym c.in-Some.is) lt)) in
    let here : (outs : ℕ → Out) → AreOutcomes a outs → outcomes_at a outs k ≡ [] = subst (IsAttempt a k) c.in-Failed.is c.in_ok-found.ensures.attempt in
    let unset : c.attempt.new.machine.captures.items ≡ c.loop-start.cache.machine.captures.items =
    subst (λ x. IfGoesOn x (c.attempt.new.machine.captures.items ≡ c.loop-start.cache.machine.captures.items)) c.in-Failed.is c.in_ok-found.ensures.unset in
    record {
      unset = unset ∙ so_far.unset;
      lead = search rules;
      from = omega (arith, so_far.from, so_far.on, within.0);
      on = omega (arith, c.next_after-start.ensures.low);
      remaining = omega (arith, c.in_ok-found.ensures.remaining, c.saturating_sub.ensures, so_far.remaining);
      counted = omega (arith, c.in_ok-found.ensures.remaining, c.saturating_sub.ensures, so_far.counted, so_far.from, so_far.on, within.0);
      solved = λ outs are.
          none_before text (outcomes_at a outs) c.args.from (k + 1) (none_more text (outcomes_at a outs) c.args.from k (before outs are) (λ on. here outs are))
          c.next_after-start.result
          (λ p low le lt. c.next_after-start.ensures.skipped (run_code a) (run_tables a) a.for_pattern outs are (here outs are) p (omega (arith, low)) lt);
      costs = λ outs costs are.
          let so = so_far.costs outs costs are in
          let taken = c.in_ok-found.ensures.costs outs costs are in
          let on = tried_on (cost_at a costs) c.args.from c.loop-start.counted k so_far.from (omega (arith, so_far.on, within.0)) in
          omega (arith, so, taken, on, c.saturating_sub.ensures);
      within = λ are. c.attempt.ensures.within (so_far.within are);
      enough = λ outs costs are.
          searched (cost_at a costs) c.args.from c.loop-start.counted k (length text) c.args.remaining.now c.loop-start.remaining c.saturating_sub.result
          c.attempt.new.remaining so_far.from (omega (arith, so_far.on, within.0)) within.1 (so_far.costs outs costs are) (omega (arith, c.saturating_sub.ensures))
          (c.in_ok-found.ensures.costs outs costs are);
    }

pub loop-start-preserved : goal.loop-start-preserved
loop-start-preserved c =
    let a = c.args.self.now in
    let text = run_text a in
    let k = c.in-Some.position in
    let so_far = c.loop-start.invariant in
    let within = tried_within _ _ _ _ c.in-Some.is c.next_start.ensures.within in
    let attempt = subst (IsAttempt a k) c.in-Passed.is c.in_ok-found.ensures.attempt in
    let low : k < c.in-Passed.to = attempt.0 in
    let unset : c.attempt.new.machine.captures.items ≡ c.loop-start.cache.machine.captures.items =
    subst (λ x. IfGoesOn x (c.attempt.new.machine.captures.items ≡ c.loop-start.cache.machine.captures.items)) c.in-Passed.is c.in_ok-found.ensures.unset in
    record {
      unset = unset ∙ so_far.unset;
      lead = so_far.lead;
      from = omega (arith, so_far.from, so_far.on, within.0);
      on = omega (arith, low);
      remaining = omega (arith, c.in_ok-found.ensures.remaining, c.saturating_sub.ensures, so_far.remaining);
      counted = omega (arith, c.in_ok-found.ensures.remaining, c.saturating_sub.ensures, so_far.counted, so_far.from, so_far.on, within.0);
      solved = λ outs are.
          none_on text (outcomes_at a outs) c.args.from k
          (none_before text (outcomes_at a outs) c.args.from c.loop-start.start (so_far.solved outs are) k
          (λ p low le lt. c.next_start.ensures.skipped outs are p low le (subst (λ r. MatchOption r Unit (λ q. p < q)) (sym c.in-Some.is) lt)))
          c.in-Passed.to (attempt.1 outs are);
      costs = λ outs costs are.
          let so = so_far.costs outs costs are in
          let taken = c.in_ok-found.ensures.costs outs costs are in
          let on = tried_on (cost_at a costs) c.args.from c.loop-start.counted k so_far.from (omega (arith, so_far.on, within.0)) in
          omega (arith, so, taken, on, c.saturating_sub.ensures);
      within = λ are. c.attempt.ensures.within (so_far.within are);
      enough = λ outs costs are.
          searched (cost_at a costs) c.args.from c.loop-start.counted k (length text) c.args.remaining.now c.loop-start.remaining c.saturating_sub.result
          c.attempt.new.remaining so_far.from (omega (arith, so_far.on, within.0)) within.1 (so_far.costs outs costs are) (omega (arith, c.saturating_sub.ensures))
          (c.in_ok-found.ensures.costs outs costs are);
    }

-- ---- the cost of the search

pub returns-in-Matched-clause-tried : goal.returns-in-Matched-clause-tried
returns-in-Matched-clause-tried c =
    let a = c.args.self.now in
    let k = c.in-Some.position in
    let some = solution (setting_with (run_code a) (run_tables a)) (run_text a) (code_routines (run_code a)) (run_code a).program.is_program in
    let within = tried_within _ _ _ _ c.in-Some.is c.next_start.ensures.within in
    let so_far = c.loop-start.invariant in
    let attempt = subst (IsAttempt a k) c.in-Matched.is c.in_ok-found.ensures.attempt in
    let first = attempt.1 some.0 some.1 in
    omega (arith, first.0, within.0, so_far.from, so_far.on, so_far.counted, c.saturating_sub.ensures, c.in_ok-found.ensures.remaining)

pub returns-in-Matched-clause-costs : goal.returns-in-Matched-clause-costs
returns-in-Matched-clause-costs c = λ outs costs are.
    let a = c.args.self.now in
    let k = c.in-Some.position in
    let within = tried_within _ _ _ _ c.in-Some.is c.next_start.ensures.within in
    let so_far = c.loop-start.invariant in
    searched (cost_at a costs) c.args.from c.loop-start.counted k (length (run_text a)) c.args.remaining.now c.loop-start.remaining c.saturating_sub.result
    c.attempt.new.remaining so_far.from (omega (arith, so_far.on, within.0)) within.1 (so_far.costs outs costs are) (omega (arith, c.saturating_sub.ensures))
    (c.in_ok-found.ensures.costs outs costs are)

pub returns-in-OutOfSteps-clause-costs : goal.returns-in-OutOfSteps-clause-costs
returns-in-OutOfSteps-clause-costs c = λ outs costs are.
    let a = c.args.self.now in
    let k = c.in-Some.position in
    let within = tried_within _ _ _ _ c.in-Some.is c.next_start.ensures.within in
    let so_far = c.loop-start.invariant in
    searched (cost_at a costs) c.args.from c.loop-start.counted k (length (run_text a)) c.args.remaining.now c.loop-start.remaining c.saturating_sub.result
    c.attempt.new.remaining so_far.from (omega (arith, so_far.on, within.0)) within.1 (so_far.costs outs costs are) (omega (arith, c.saturating_sub.ensures))
    (c.in_ok-found.ensures.costs outs costs are)

-- ---- the memory

pub returns-in_err-unset_all-clause-within : goal.returns-in_err-unset_all-clause-within
returns-in_err-unset_all-clause-within c = c.unset_all.ensures.within (run_room c.args.self.now)

pub returns-in_err-found-clause-too_much : goal.returns-in_err-found-clause-too_much
returns-in_err-found-clause-too_much c =
    let a = c.args.self.now in
    let k = c.in-Some.position in
    let within = tried_within _ _ _ _ c.in-Some.is c.next_start.ensures.within in
    let so_far = c.loop-start.invariant in
    let the_fault : IfErr c.from_residual-in_err-found.result (λ fault. fault ≡ c.in_err-found.field-0.0) = search rules in
    err_map c.from_residual-in_err-found.result _ _
    (λ fault is. λ much outs costs are.
    let le = c.in_err-found.ensures.too_much (sym is ∙ much) outs costs are in
    let part = one_tried (cost_at a costs) c.args.from k (length (run_text a)) (omega (arith, so_far.from, so_far.on, within.0)) within.1 in
    omega (arith, le, part))
    the_fault
