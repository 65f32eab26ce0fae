-- The points that are left out have no outcome.
use Rattle.std.proofs.Common.{◌≡◌, ◌≤◌, ℕ, All, flat_map, length}
use Rattle.regress_program.specs.Cost.{Cost}
use Rattle.regress_program.specs.Program.{Out}
use Rattle.regress_backtrack.specs.Costs.{points_cost}
use Rattle.regress_backtrack.specs.Machine.{points, rewound}
use Rattle.regress_backtrack.specs.Memory.{AreWithin, entry_count}
use Rattle.regress_backtrack.specs.Next.{Inside, Solve}
use Rattle.regress_backtrack.proofs.run.resume.Given as goal

abbrev pub invariant-loop-to : goal.invariant-loop-to
invariant-loop-to l = record {
  same : (outs : ℕ → Out) → Solve l.input outs →
      flat_map (outs l.input.index) (points l.fn.machine) ≡ flat_map (outs l.input.index) (points l.machine);
  inside : All (Inside l.input) (points l.fn.machine) → All (Inside l.input) (points l.machine);
  rewound : rewound l.machine ≡ rewound l.fn.machine;
  costs : (cost : Cost) → points_cost cost l.machine ≤ points_cost cost l.fn.machine;
  shrinks : entry_count l.machine ≤ entry_count l.fn.machine;
  within : (room : ℕ) → AreWithin room l.fn.machine → AreWithin room l.machine;
}

abbrev pub decreases-loop-to : goal.decreases-loop-to
decreases-loop-to l = length (points l.machine)
