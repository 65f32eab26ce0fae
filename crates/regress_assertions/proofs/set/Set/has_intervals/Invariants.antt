-- The set has the intervals so far.
use Rattle.std.proofs.Common.{◌≡◌, length}
use Rattle.std.specs.List.{list_all}
use Rattle.regress_assertions.specs.Characters.{view, has_all}
use Rattle.regress_assertions.proofs.set.Set.has_intervals.Given as goal

abbrev pub invariant-loop-rest : goal.invariant-loop-rest
invariant-loop-rest l = list_all (has_all (view l.fn.self)) l.fn.intervals ≡ list_all (has_all (view l.fn.self)) l.rest

abbrev pub decreases-loop-rest : goal.decreases-loop-rest
decreases-loop-rest l = length l.rest
