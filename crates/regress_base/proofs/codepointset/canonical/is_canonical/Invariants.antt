-- The intervals so far are canonical, and the next one has to begin at `low` or above.
use Rattle.std.proofs.Common.{◌≡◌, drop}
use Rattle.regress_base.specs.Intervals.{is_canonical_from}
use Rattle.regress_base.proofs.codepointset.canonical.is_canonical.Given as goal

abbrev pub invariant-loop-iv : goal.invariant-loop-iv
invariant-loop-iv l = is_canonical_from l.low (drop l.iv-index l.ivs) ≡ is_canonical_from 0 l.ivs
