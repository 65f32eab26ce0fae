-- The positions that were passed are between two word characters.
use Rattle.std.proofs.Common.{ℕ, ◌-◌, ◌≤◌, ◌<◌, length}
use Rattle.regress_backtrack.specs.Beginning.{IsInsideWord, IsWordAt}
use Rattle.regress_backtrack.proofs.beginning.outside_word.Given as goal

abbrev pub invariant-loop-position : goal.invariant-loop-position
invariant-loop-position l = record {
  low : l.from ≤ l.position;
  some : 0 < l.position;
  high : l.position ≤ length l.text;
  before : IsWordAt l.text (l.position - 1);
  inside : (k : ℕ) → l.from ≤ k → k < l.position → IsInsideWord l.text k;
}

abbrev pub decreases-loop-position : goal.decreases-loop-position
decreases-loop-position l = length l.text - l.position
