-- None of the intervals so far does.
use Rattle.std.proofs.Common.{◌≡◌, length}
use Rattle.std.specs.List.{list_any}
use Rattle.regress_assertions.specs.Characters.{is_inside}
use Rattle.regress_assertions.proofs.set.is_inside_some.Given as goal

abbrev pub invariant-loop-rest : goal.invariant-loop-rest
invariant-loop-rest l =
    list_any (is_inside (record { first = l.fn.range.first; last = l.fn.range.last })) l.fn.intervals
    ≡ list_any (is_inside (record { first = l.fn.range.first; last = l.fn.range.last })) l.rest

abbrev pub decreases-loop-rest : goal.decreases-loop-rest
decreases-loop-rest l = length l.rest
