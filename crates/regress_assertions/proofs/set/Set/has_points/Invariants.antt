-- The set has the characters so far.
use Rattle.std.proofs.Common.{◌≡◌, length}
use Rattle.std.specs.List.{list_all}
use Rattle.regress_assertions.specs.Characters.{view, one, has_all}
use Rattle.regress_assertions.proofs.set.Set.has_points.Given as goal

abbrev pub invariant-loop-rest : goal.invariant-loop-rest
invariant-loop-rest l =
    list_all (λ c. has_all (view l.fn.self) (one c)) l.fn.points ≡ list_all (λ c. has_all (view l.fn.self) (one c)) l.rest

abbrev pub decreases-loop-rest : goal.decreases-loop-rest
decreases-loop-rest l = length l.rest
