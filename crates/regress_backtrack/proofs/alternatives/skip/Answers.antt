use Rattle.std.proofs.Common.{◌≡◌, ◌≤◌, ◌<◌, ℕ, IfSome, ◌∙◌, subst, arith}
use Rattle.regress_program.specs.Cost.{Cost}
use Rattle.regress_program.specs.Program.{Out}
use Rattle.regress_backtrack.specs.Costs.{HasCost}
use Rattle.regress_backtrack.specs.Machine.{Groups, at}
use Rattle.regress_backtrack.specs.Next.{Solve}
use Rattle.regress_backtrack.proofs.alternatives.skip.Goals as goal

pub loop-second-preserved : goal.loop-second-preserved
loop-second-preserved c =
    let input = c.args.input.now in
    let here = c.loop-second.here in
    let so_far = c.loop-second.invariant in
    let earlier : c.in-Some.second < here.pc = subst (λ o. IfSome o (λ (k : ℕ). k < here.pc)) c.in-Some.is c.other_alternative.ensures.earlier in
    let same : (outs : ℕ → Out) (g : Groups) → Solve input outs → outs input.index (at (record here { pc = c.in-Some.second }) g) ≡ outs input.index (at here g) =
    subst (λ o. IfSome o (λ (k : ℕ). (outs : ℕ → Out) (g : Groups) → Solve input outs → outs input.index (at (record here { pc = k }) g) ≡ outs input.index (at here g)))
    c.in-Some.is c.other_alternative.ensures.same in
    let less : (outs : ℕ → Out) (costs : ℕ → Cost) (g : Groups) → HasCost input outs costs →
    costs input.index (at (record here { pc = c.in-Some.second }) g) ≤ costs input.index (at here g) =
    subst (λ o. IfSome o (λ (k : ℕ). (outs : ℕ → Out) (costs : ℕ → Cost) (g : Groups) → HasCost input outs costs →
    costs input.index (at (record here { pc = k }) g) ≤ costs input.index (at here g))) c.in-Some.is c.other_alternative.ensures.costs in
    record {
      pc = omega (arith, earlier, so_far.pc);
      position = so_far.position;
      same = λ outs g solve. same outs g solve ∙ so_far.same outs g solve;
      costs = λ outs costs g has.
          let one = less outs costs g has in
          let more = so_far.costs outs costs g has in
          omega (arith, one, more);
    }
