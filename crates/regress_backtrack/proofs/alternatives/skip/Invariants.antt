-- The outcomes at the present place are those at the first one, and the cost is at most that of the first one.
use Rattle.std.proofs.Common.{◌≡◌, ◌≤◌, ◌<◌, ℕ, length}
use Rattle.regress_program.specs.Cost.{Cost}
use Rattle.regress_program.specs.Program.{Out}
use Rattle.regress_backtrack.specs.Costs.{HasCost}
use Rattle.regress_backtrack.specs.Machine.{Groups, at}
use Rattle.regress_backtrack.specs.Next.{Solve, instructions_in}
use Rattle.regress_backtrack.proofs.alternatives.skip.Given as goal

abbrev pub invariant-loop-second : goal.invariant-loop-second
invariant-loop-second l = record {
  pc : l.here.pc < length (instructions_in l.input);
  position : l.here.position ≡ l.fn.place.position;
  same : (outs : ℕ → Out) (g : Groups) → Solve l.input outs → outs l.input.index (at l.here g) ≡ outs l.input.index (at l.fn.place g);
  costs : (outs : ℕ → Out) (costs : ℕ → Cost) (g : Groups) → HasCost l.input outs costs →
      costs l.input.index (at l.here g) ≤ costs l.input.index (at l.fn.place g);
}

abbrev pub decreases-loop-second : goal.decreases-loop-second
decreases-loop-second l = l.here.pc
