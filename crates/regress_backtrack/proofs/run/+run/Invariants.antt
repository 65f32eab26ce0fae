-- The outcomes of the routine are those from the present place, and then those from the backtrack points. So are the costs,
-- with the steps that were taken.
use Rattle.std.proofs.Common.{◌≡◌, ◌+◌, ◌*◌, ◌≤◌, ◌∷◌, ℕ, All, flat_map}
use Rattle.regress_leaves.specs.Subject.{subject}
use Rattle.regress_found.specs.Found.{state}
use Rattle.regress_program.specs.Cost.{Cost, cost_of}
use Rattle.regress_program.specs.Program.{IsSolution, Out, matcher_of}
use Rattle.regress_code.specs.Code.{code_routines}
use Rattle.regress_backtrack.specs.Costs.{HasCost, points_cost}
use Rattle.regress_backtrack.specs.Machine.{at, groups_of, points, rewound}
use Rattle.regress_backtrack.specs.Memory.{AreWithin, entry_count}
use Rattle.regress_backtrack.specs.Next.{Inside}
use Rattle.regress_backtrack.proofs.run.+run.Given as goal

abbrev pub decreases-run : goal.decreases-run
decreases-run l = 4 * l.input.now.index + 3

abbrev pub decreases-advance : goal.decreases-advance
decreases-advance l = 4 * l.input.now.index + 2

abbrev pub decreases-look : goal.decreases-look
decreases-look l = 4 * l.looking.routine + 4

abbrev pub invariant-run-loop-remaining : goal.invariant-run-loop-remaining
invariant-run-loop-remaining l = record {
  remaining : l.remaining ≤ l.fn.remaining;
  undo : (rewound l.machine).captures ≡ l.fn.machine.captures.items;
  inside : All (Inside l.input) (at l.here (groups_of l.machine) ∷ points l.machine);
  same : (outs : ℕ → Out) → IsSolution (subject l.input.rules l.input.text.now).setting l.input.text.now (code_routines l.input.code.now) outs →
      matcher_of (subject l.input.rules l.input.text.now).setting l.input.text.now (code_routines l.input.code.now) outs l.input.index
      (state l.fn.machine.captures.items l.start)
      ≡ flat_map (outs l.input.index) (at l.here (groups_of l.machine) ∷ points l.machine);
  costs : (outs : ℕ → Out) (costs : ℕ → Cost) → HasCost l.input outs costs →
      l.fn.remaining + (costs l.input.index (at l.here (groups_of l.machine)) + points_cost (costs l.input.index) l.machine)
      ≤ l.remaining + cost_of (subject l.input.rules l.input.text.now).setting l.input.text.now (code_routines l.input.code.now) costs l.input.index
      (state l.fn.machine.captures.items l.start);
  within : AreWithin l.input.room l.fn.machine → AreWithin l.input.room l.machine;
  grows : (outs : ℕ → Out) (costs : ℕ → Cost) → HasCost l.input outs costs →
      entry_count l.machine + 64 * (costs l.input.index (at l.here (groups_of l.machine)) + points_cost (costs l.input.index) l.machine)
      ≤ 64 * cost_of (subject l.input.rules l.input.text.now).setting l.input.text.now (code_routines l.input.code.now) costs l.input.index
      (state l.fn.machine.captures.items l.start);
}

abbrev pub decreases-run-loop-remaining : goal.decreases-run-loop-remaining
decreases-run-loop-remaining l = l.remaining
