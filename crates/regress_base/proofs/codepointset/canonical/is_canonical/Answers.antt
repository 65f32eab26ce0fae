use Rattle.std.proofs.lemmas.Grind.{common_steps}
use Rattle.std.proofs.Common.{arith}
use Rattle.regress_base.proofs.codepointset.canonical.is_canonical.Goals as goal

pub loop-iv-preserved : goal.loop-iv-preserved
loop-iv-preserved c = grind (arith, common_steps)
