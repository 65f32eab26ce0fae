-- The intervals before the remaining ones are outside of pairs.
use Rattle.std.proofs.Common.{◌≡◌, length}
use Rattle.regress_ecma.specs.SurrogatePairs.{are_outside_pairs}
use Rattle.regress.proofs.outside_pairs.are_outside_pairs.Given as goal

abbrev pub invariant-loop-rest : goal.invariant-loop-rest
invariant-loop-rest l = are_outside_pairs l.fn.intervals ≡ are_outside_pairs l.rest

abbrev pub decreases-loop-rest : goal.decreases-loop-rest
decreases-loop-rest l = length l.rest
