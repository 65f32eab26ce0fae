-- None of the offsets before is that of a pair.
use Rattle.std.proofs.Common.{◌≤◌, ◌<◌, ℕ}
use Rattle.regress_prefilter.specs.FirstPairs.{IsPairAt}
use Rattle.regress_prefilter.proofs.first_pairs.next_pair.Given as goal

abbrev pub invariant-loop-k : goal.invariant-loop-k
invariant-loop-k l = (j : ℕ) → l.from ≤ j → j < l.k → IsPairAt l.pair l.bytes j → ⊥
