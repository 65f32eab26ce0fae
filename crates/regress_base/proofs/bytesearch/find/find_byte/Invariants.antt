use Rattle.std.proofs.Common.{ℕ, Bool, ◌*◌}
use Rattle.regress_base.specs.Positions.{DecidesMembership}
use Rattle.regress_base.proofs.FindLemmas.{NoneBefore}
use Rattle.regress_base.proofs.bytesearch.find.find_byte.Given as goal

abbrev pub invariant-loop-i : goal.invariant-loop-i
invariant-loop-i g l = (set : ℕ → Bool) → DecidesMembership (goal.F-post g l.test) set → NoneBefore set l.text (l.i * 4)
