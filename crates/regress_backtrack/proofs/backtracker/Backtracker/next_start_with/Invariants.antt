-- The positions that were passed have no outcome.
use Rattle.std.proofs.Common.{ℕ, ◌-◌, ◌≤◌, ◌<◌, Some, length}
use Rattle.regress_backtrack.specs.Backtracker.{Skipped, run_text}
use Rattle.regress_backtrack.specs.Beginning.{IsExcluded}
use Rattle.regress_backtrack.proofs.backtracker.Backtracker.next_start_with.Given as goal

abbrev pub invariant-loop-position : goal.invariant-loop-position
invariant-loop-position l = record {
  low : l.from ≤ l.position;
  order : l.position ≤ l.possible;
  high : l.possible ≤ length (run_text l.self);
  excluded : (k : ℕ) → l.position ≤ k → k < l.possible → IsExcluded l.beginning (run_text l.self) k;
  skipped : Skipped l.self l.from (Some l.position);
}

abbrev pub decreases-loop-position : goal.decreases-loop-position
decreases-loop-position l = length (run_text l.self) - l.position
