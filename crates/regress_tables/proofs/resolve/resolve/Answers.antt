use Rattle.std.proofs.Common.{◌≡◌, ◌+◌, ◌-◌, ◌*◌, length, take, ap, ◌∙◌, subst, arith}
use Rattle.regress_program.specs.Compiled.{total}
use Rattle.regress_tables.specs.Searchable.{AreResolved, program_in, width_at}
use Rattle.regress_tables.specs.Slots.{AreInside}
use Rattle.regress_tables.proofs.ResolveLemmas.{resolved-none, resolved-trans, total_next, steps_next}
use Rattle.regress_tables.proofs.resolve.resolve.Goals as goal

pub loop-routine-init : goal.loop-routine-init
loop-routine-init c = record {
  within = omega arith;
  resolved = resolved-none c.args.filled c.args.routines c.args.slots.now.items c.requires.inside;
  steps = omega arith;
}

pub resolve_routine-requires-clause-inside : goal.resolve_routine-requires-clause-inside
resolve_routine-requires-clause-inside c =
    let f = c.args.filled in
    let n = c.loop-routine.routine in
    let e : n ≡ (n - 1) + 1 = omega (arith, c.loop-routine-test.true) in
    subst (λ k. AreInside k (length f.input.text.now) f.inner c.loop-routine.slots.items) e c.loop-routine.invariant.resolved.inside

pub loop-routine-preserved : goal.loop-routine-preserved
loop-routine-preserved c =
    let so_far = c.loop-routine.invariant in
    let f = c.args.filled in
    let n = c.loop-routine.routine in
    let e : n ≡ (n - 1) + 1 = omega (arith, c.loop-routine-test.true) in
    let m = length f.input.text.now + 1 in
    let t = total (take (n - 1) (program_in f)) in
    let w = width_at (program_in f) (n - 1) in
    let next : total (take n (program_in f)) ≡ t + w = ap (λ k. total (take k (program_in f))) e ∙ total_next (program_in f) (n - 1) (omega (arith, e, so_far.within, c.requires.routines)) in
    let more : 2 * total (take n (program_in f)) * f.inner * m ≡ 2 * t * f.inner * m + 2 * w * f.inner * m = ap (λ k. 2 * k * f.inner * m) next ∙ steps_next t w f.inner m in
    record {
      within = omega (arith, so_far.within);
      resolved = resolved-trans f n (n - 1) c.args.slots.now.items c.loop-routine.slots.items c.resolve_routine.new.slots.items so_far.resolved c.in_ok-resolve_routine.ensures.resolved;
      steps = omega (arith, so_far.steps, c.in_ok-resolve_routine.ensures.steps, more);
    }

pub returns-clause-resolved : goal.returns-clause-resolved
returns-clause-resolved c =
    let e : c.loop-routine.routine ≡ 0 = omega (arith, c.loop-routine-test.false) in
    subst (λ k. AreResolved c.args.filled k c.args.slots.now.items c.loop-routine.slots.items) e c.loop-routine.invariant.resolved
