-- None of the characters so far does.
use Rattle.std.proofs.Common.{◌≡◌, length}
use Rattle.std.specs.List.{list_any}
use Rattle.regress_assertions.specs.Characters.{one, is_inside}
use Rattle.regress_assertions.proofs.set.is_some_point.Given as goal

abbrev pub invariant-loop-rest : goal.invariant-loop-rest
invariant-loop-rest l =
    list_any (λ c. is_inside (record { first = l.fn.range.first; last = l.fn.range.last }) (one c)) l.fn.points
    ≡ list_any (λ c. is_inside (record { first = l.fn.range.first; last = l.fn.range.last }) (one c)) l.rest

abbrev pub decreases-loop-rest : goal.decreases-loop-rest
decreases-loop-rest l = length l.rest
