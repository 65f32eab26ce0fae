-- No candidate is before the position that is tried, nor from there to the next one near which the byte is.
use Rattle.std.proofs.Common.{◌≤◌, ◌<◌, ◌-◌, ℕ, length}
use Rattle.regress_prefilter.specs.Candidates.{CanBegin, IsCandidate}
use Rattle.regress_prefilter.specs.Near.{IsNearby}
use Rattle.regress_prefilter.proofs.candidates.next_near.Given as goal

abbrev pub invariant-loop-position : goal.invariant-loop-position
invariant-loop-position l = record {
  low : l.from ≤ l.position;
  high : l.position ≤ length l.text;
  begins : CanBegin l.candidates.first l.text l.position;
  reaches : l.position ≤ l.nearby;
  inside : l.nearby ≤ length l.text;
  near : IsNearby l.near l.text l.nearby;
  none : (k : ℕ) → l.from ≤ k → k < l.position → IsCandidate l.candidates l.text k → ⊥;
  far : (k : ℕ) → l.position ≤ k → k < l.nearby → IsNearby l.near l.text k → ⊥;
}

abbrev pub decreases-loop-position : goal.decreases-loop-position
decreases-loop-position l = length l.text - l.position
