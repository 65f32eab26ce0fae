-- No code point so far is above U+FFFF.
use Rattle.std.proofs.Common.{◌≡◌, length}
use Rattle.std.specs.List.{list_any}
use Rattle.regress_warnings.specs.Written.{is_above}
use Rattle.regress_warnings.proofs.written.has_above.Given as goal

abbrev pub invariant-loop-rest : goal.invariant-loop-rest
invariant-loop-rest l = list_any is_above l.fn.written ≡ list_any is_above l.rest

abbrev pub decreases-loop-rest : goal.decreases-loop-rest
decreases-loop-rest l = length l.rest
