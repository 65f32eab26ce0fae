-- A part before the remaining ones has the character if `found` holds, and no two of them do.
use Rattle.std.proofs.Common.{◌≡◌, ◌&&◌, ◌||◌, length}
use Rattle.std.specs.List.{list_any}
use Rattle.regress_warnings.specs.Classes.{parts, has, have_twice}
use Rattle.regress_warnings.proofs.repeated.have_twice.Given as goal

abbrev pub invariant-loop-rest : goal.invariant-loop-rest
invariant-loop-rest l = have_twice l.c (parts l.fn.inside) ≡ (l.found && list_any (has l.c) (parts l.rest) || have_twice l.c (parts l.rest))

abbrev pub decreases-loop-rest : goal.decreases-loop-rest
decreases-loop-rest l = length l.rest
