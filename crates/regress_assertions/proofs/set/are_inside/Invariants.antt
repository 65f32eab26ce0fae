-- Each interval so far is.
use Rattle.std.proofs.Common.{◌≡◌, length}
use Rattle.std.specs.List.{list_all, list_any}
use Rattle.regress_assertions.specs.Characters.{is_inside}
use Rattle.regress_assertions.proofs.set.are_inside.Given as goal

abbrev pub invariant-loop-rest : goal.invariant-loop-rest
invariant-loop-rest l =
    list_all (λ a. list_any (is_inside a) l.fn.others) l.fn.intervals ≡ list_all (λ a. list_any (is_inside a) l.fn.others) l.rest

abbrev pub decreases-loop-rest : goal.decreases-loop-rest
decreases-loop-rest l = length l.rest
