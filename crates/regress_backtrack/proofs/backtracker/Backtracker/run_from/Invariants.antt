-- Every group is unset, and no character boundary before the current position has an outcome. The steps so far are at most the cost of the positions
-- that are counted, and at least one for each of them.
use Rattle.std.proofs.Common.{◌≡◌, ◌≤◌, ◌+◌, ◌-◌, ℕ, IfSome, None, length, replicate}
use Rattle.regress_found.specs.Found.{NoneBefore}
use Rattle.regress_program.specs.Cost.{Cost}
use Rattle.regress_program.specs.Program.{Out}
use Rattle.regress_code.specs.Code.{code_groups}
use Rattle.regress_backtrack.specs.Backtracker.{AreCosts, AreOutcomes, cost_at, outcomes_at, run_code, run_room, run_text, runs_cost_at}
use Rattle.regress_backtrack.specs.Lead.{IsLead}
use Rattle.regress_backtrack.specs.Memory.{IsWithin}
use Rattle.regress_backtrack.proofs.CostLemmas.{tried}
use Rattle.regress_backtrack.proofs.backtracker.Backtracker.run_from.Given as goal

abbrev pub invariant-loop-start : goal.invariant-loop-start
invariant-loop-start l = record {
  unset : l.cache.machine.captures.items ≡ replicate (code_groups (run_code l.self)) None;
  lead : IfSome l.lead (IsLead l.self.input);
  from : l.fn.from ≤ l.counted;
  on : l.counted ≤ l.start;
  remaining : l.remaining ≤ l.fn.remaining;
  counted : l.remaining ≤ l.fn.remaining - (l.counted - l.fn.from);
  solved : (outs : ℕ → Out) → AreOutcomes l.self outs → NoneBefore (run_text l.self) (outcomes_at l.self outs) l.fn.from l.start;
  costs : (outs : ℕ → Out) (costs : ℕ → Cost) → AreCosts l.self outs costs →
      l.fn.remaining ≤ l.remaining + tried (cost_at l.self costs) l.fn.from (l.counted - l.fn.from);
  within : IsWithin (run_room l.self) l.fn.cache → IsWithin (run_room l.self) l.cache;
  enough : (outs : ℕ → Out) (costs : ℕ → Cost) → AreCosts l.self outs costs → l.fn.remaining ≤ l.remaining + runs_cost_at l.self costs l.fn.from;
}

abbrev pub decreases-loop-start : goal.decreases-loop-start
decreases-loop-start l = length (run_text l.self) + 1 - l.start
