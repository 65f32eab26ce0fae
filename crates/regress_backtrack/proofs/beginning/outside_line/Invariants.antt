-- The positions that were passed are after a character that does not end a line.
use Rattle.std.proofs.Common.{ℕ, ◌-◌, ◌≤◌, ◌<◌, length}
use Rattle.regress_backtrack.specs.Beginning.{IsInsideLine}
use Rattle.regress_backtrack.proofs.beginning.outside_line.Given as goal

abbrev pub invariant-loop-position : goal.invariant-loop-position
invariant-loop-position l = record {
  low : l.from ≤ l.position;
  high : l.position ≤ length l.text;
  inside : (k : ℕ) → l.from ≤ k → k < l.position → IsInsideLine l.text k;
}

abbrev pub decreases-loop-position : goal.decreases-loop-position
decreases-loop-position l = length l.text - l.position
