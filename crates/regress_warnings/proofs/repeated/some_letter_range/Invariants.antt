-- No part before the remaining ones is such a range.
use Rattle.std.proofs.Common.{◌≡◌, length}
use Rattle.std.specs.List.{list_any}
use Rattle.regress_warnings.specs.Classes.{is_letter_range, parts}
use Rattle.regress_warnings.proofs.repeated.some_letter_range.Given as goal

abbrev pub invariant-loop-rest : goal.invariant-loop-rest
invariant-loop-rest l = list_any is_letter_range (parts l.fn.inside) ≡ list_any is_letter_range (parts l.rest)

abbrev pub decreases-loop-rest : goal.decreases-loop-rest
decreases-loop-rest l = length l.rest
