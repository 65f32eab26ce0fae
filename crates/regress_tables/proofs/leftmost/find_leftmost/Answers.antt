use Rattle.std.proofs.Common.{◌≡◌, ◌+◌, ◌-◌, ◌*◌, ◌≤◌, ◌∷◌, ℕ, length, take, slice_get, Some, IfSome, refl, sym, ap, ◌∙◌, subst, arith}
use Rattle.std.proofs.lemmas.List.{length-map}
use Rattle.std.specs.Str.{IsCharBoundary}
use Rattle.regress_tree.specs.Steps.{MatchState}
use Rattle.regress_tree.specs.Reading.{forwards}
use Rattle.regress_program.specs.Compiled.{total}
use Rattle.regress_program.specs.Cost.{blocks}
use Rattle.regress_found.specs.Found.{state_of}
use Rattle.regress_program.specs.Views.{routine_in}
use Rattle.regress_program.specs.Isolated.{Captures}
use Rattle.regress_program.specs.Program.{Out, Routine}
use Rattle.regress_tables.specs.Searchable.{IsEnd, IsFirstOutcome, captures_in, outcomes_in, program_in}
use Rattle.regress_tables.specs.Slots.{AreInside, resolved}
use Rattle.regress_tables.specs.declared.first.FirstOutcome.{FirstOutcome}
use Rattle.regress_program.proofs.lemmas.Totals.{routine_size, total_part}
use Rattle.regress_tables.proofs.ResolveLemmas.{get-some, leftmost_steps, weighted_steps}
use Rattle.regress_tables.proofs.SearchLemmas.{leftmost_by}
use Rattle.regress_tables.proofs.WalkLemmas.{none-more}
use Rattle.regress_tables.proofs.leftmost.find_leftmost.Goals as goal
use Rattle.regress_tables.proofs.leftmost.find_leftmost.Goals.{then-may_start+in_ok-first+in_default, else-may_start}

pub captures_of-requires : goal.captures_of-requires
captures_of-requires c =
    let f = c.args.filled in (
      length f.input.text.now,
      f.inner,
      subst (AreInside 0 (length f.input.text.now) f.inner) (sym c.deref.ensures.value) c.in_ok-resolve.ensures.resolved.inside,
    )

pub returns-in-Some-clause-solved : goal.returns-in-Some-clause-solved
returns-in-Some-clause-solved c = λ outs solves.
    let f = c.args.filled in
    let n = c.args.groups in
    let start = c.loop-start.start in
    let last = c.len-last.result - 1 in
    let o = c.in-Some.first in
    let m = c.new.result in
    let index : length (program_in f) - 1 ≡ last = omega (arith, c.len-last.ensures, length-map f.input.code.now.program.routines.items (routine_in f.input.code.now.program.leaves.items)) in
    let first = (subst (IsFirstOutcome f last n start) c.in-Some.is c.in_ok-first.ensures.first) outs solves in
    let ends = subst (λ x. IfSome x (IsEnd f last n)) c.in-Some.is c.in_ok-first.ensures.end in
    let captures = c.in_ok-captures.ensures (captures_in f outs n)
    ∙ ap (resolved (captures_in f outs n)) c.deref.ensures.value
    ∙ subst (λ k. resolved (captures_in f outs k) c.resolve.new.slots.items ≡ resolved (captures_in f outs k) o.slots.items) ends.count (c.in_ok-resolve.ensures.resolved.same outs solves) in
    let on : IsCharBoundary f.input.text.now start = c.may_start.ensures.boundary c.if-may_start.true in
    leftmost_by f.input.text.now (outcomes_in f outs (length (program_in f) - 1) n) c.args.from start (state_of m) m c.new.ensures.start refl
    c.loop-start.auto.start on first.0
    (ap (λ k. outcomes_in f outs k n start) index ∙ first.1 ∙ ap (λ (cs : Captures). let s : MatchState = record { position = o.end; captures = cs } in s ∷ first.0) (sym captures)
    ∙ ap (λ s. s ∷ first.0) (sym c.new.ensures.state))
    (c.loop-start.invariant.none outs solves)

pub returns-in-Some-clause-steps : goal.returns-in-Some-clause-steps
returns-in-Some-clause-steps c =
    let f = c.args.filled in
    let P = program_in f in
    let start = c.loop-start.start in
    let last = c.len-last.result - 1 in
    let o = c.in-Some.first in
    let index : length P - 1 ≡ last = omega (arith, c.len-last.ensures, length-map f.input.code.now.program.routines.items (routine_in f.input.code.now.program.leaves.items)) in
    let r = get-some P (length P - 1) (omega (arith, length-map f.input.code.now.program.routines.items (routine_in f.input.code.now.program.leaves.items), f.input.code.now.program.some)) in
    let forward = (subst (λ x. IfSome x (λ (y : FirstOutcome). (q : Routine) → slice_get P last ≡ Some q → q.direction ≡ forwards → (start ≤ y.end) × (c.first_outcome.new.steps ≤ c.loop-start.walked + 2 * length q.ops * (y.end + 1 - start)))) c.in-Some.is c.in_ok-first.ensures.forwards)
    r.0 (ap (slice_get P) (sym index) ∙ r.1) (f.input.code.now.program.forwards r.0 r.1) in
    let end_is : c.new.result.end ≡ o.end = ap (λ s. s.position) c.new.ensures.state in
    let bound = leftmost_steps (length r.0.ops) (total P) (total (take last P)) f.inner (length f.input.text.now + 1) start o.end c.args.from c.loop-start.tried
    (c.loop-start.tried + 1 + c.first_outcome.new.steps) (c.loop-start.tried + 1 + c.resolve.new.steps) c.new.result.end
    (routine_size P (length P - 1) r.0 r.1) (total_part P last) forward.0 c.loop-start.auto.start (omega (arith, c.loop-start.invariant.tried, c.loop-start-test.true))
    (omega (arith, forward.1, c.loop-start.invariant.walked)) (omega (arith, c.in_ok-resolve.ensures.steps)) end_is in
    weighted_steps (blocks c.args.groups) (total P) f.inner (length f.input.text.now + 1) (c.new.result.end + 1 - c.args.from) (c.loop-start.tried + 1) c.resolve.new.steps
    c.steps_of_match.result (omega arith) (omega (arith, bound)) (omega (arith, c.steps_of_match.ensures.within))

pub loop-start-preserved : goal.loop-start-preserved
loop-start-preserved c =
    let f = c.args.filled in
    let n = c.args.groups in
    let start = c.loop-start.start in
    let last = c.len-last.result - 1 in
    let at = λ (outs : ℕ → Out). outcomes_in f outs (length (program_in f) - 1) n in
    let index : length (program_in f) - 1 ≡ last = omega (arith, c.len-last.ensures, length-map f.input.code.now.program.routines.items (routine_in f.input.code.now.program.leaves.items)) in
    elim c.if-may_start.branch [
      | then-may_start+in_ok-first+in_default w ↦
          record {
            tried = omega (arith, c.loop-start.invariant.tried, c.loop-start-test.true, c.loop-start.auto.start);
            walked = w.walked-is ∙ w.in_ok-first.ensures.none w.in_default.is ∙ c.loop-start.invariant.walked;
            failed = c.may_start.ensures.failed;
            none = λ outs solves.
                none-more f.input.text.now (at outs) c.args.from start (c.loop-start.invariant.none outs solves)
                (λ on. ap (λ k. outcomes_in f outs k n start) index ∙ (subst (IsFirstOutcome f last n start) w.in_default.is w.in_ok-first.ensures.first) outs solves);
          }
      | else-may_start w ↦
          record {
            tried = omega (arith, c.loop-start.invariant.tried, c.loop-start-test.true, c.loop-start.auto.start);
            walked = w.walked-is ∙ c.loop-start.invariant.walked;
            failed = c.may_start.ensures.failed;
            none = λ outs solves.
                none-more f.input.text.now (at outs) c.args.from start (c.loop-start.invariant.none outs solves)
                (λ on. ap (λ k. outcomes_in f outs k n start) index ∙ c.may_start.ensures.none w.if-may_start.false on n outs solves);
          }
    ]

pub returns-clause-solved : goal.returns-clause-solved
returns-clause-solved c = λ outs solves p low on.
    let text = c.args.filled.input.text.now in
    c.loop-start.invariant.none outs solves p low (omega (arith, on.0, c.loop-start-test.false)) on
