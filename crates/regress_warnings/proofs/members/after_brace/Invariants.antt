-- The source so far has no brace.
use Rattle.std.proofs.Common.{◌≡◌, length}
use Rattle.regress_warnings.specs.Classes.{after_brace}
use Rattle.regress_warnings.proofs.members.after_brace.Given as goal

abbrev pub invariant-loop-rest : goal.invariant-loop-rest
invariant-loop-rest l = after_brace l.fn.source ≡ after_brace l.rest

abbrev pub decreases-loop-rest : goal.decreases-loop-rest
decreases-loop-rest l = length l.rest
