-- The gaps so far, followed by those from `start` on, are all gaps.
use Rattle.std.proofs.Common.{◌≡◌, ◌++◌, drop}
use Rattle.regress_base.proofs.GapsLemmas.{gaps_from}
use Rattle.regress_base.proofs.codepointset.invert.gaps.Given as goal

abbrev pub invariant-loop-iv : goal.invariant-loop-iv
invariant-loop-iv l = l.gaps.items ++ gaps_from l.start (drop l.iv-index l.ivs) ≡ gaps_from 0 l.ivs
