use Rattle.std.proofs.Common.{ℕ, ◌<◌}
use Rattle.regress_base.specs.Positions.{OccursAt}
use Rattle.regress_base.specs.Needle.{needle_bytes}
use Rattle.regress_base.proofs.bytesearch.strings.NeedleByteSearcher.find_in.Given as goal

abbrev pub invariant-loop-i : goal.invariant-loop-i
invariant-loop-i l = (k : ℕ) → k < l.i → ¬ OccursAt (needle_bytes l.self) l.rhs k
