-- The positions that are skipped have no outcome.
use Rattle.std.proofs.Common.{◌≡◌, ◌-◌, ◌≤◌, ◌<◌, ℕ, List, [], length}
use Rattle.regress_tree.specs.Reading.{forwards}
use Rattle.regress_tree.specs.Steps.{MatchState}
use Rattle.regress_code.specs.NextBytes.{Bounds}
use Rattle.regress_code.proofs.next_bytes.NextBytes.next_from.Given as goal

abbrev pub invariant-loop-position : goal.invariant-loop-position
invariant-loop-position l = record {
  low : l.from ≤ l.position;
  high : l.position ≤ length l.text;
  skipped : (k : ℕ) → l.from ≤ k → k < l.position → (states : List MatchState) → Bounds l.self forwards l.text k states → states ≡ [];
}

abbrev pub decreases-loop-position : goal.decreases-loop-position
decreases-loop-position l = length l.text - l.position
