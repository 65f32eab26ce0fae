-- No interval so far is such.
use Rattle.std.proofs.Common.{◌≡◌, length}
use Rattle.std.specs.List.{list_any}
use Rattle.regress_warnings.specs.Written.{is_of_surrogates}
use Rattle.regress_warnings.proofs.written.has_surrogates.Given as goal

abbrev pub invariant-loop-rest : goal.invariant-loop-rest
invariant-loop-rest l = list_any is_of_surrogates l.fn.intervals ≡ list_any is_of_surrogates l.rest

abbrev pub decreases-loop-rest : goal.decreases-loop-rest
decreases-loop-rest l = length l.rest
