use Rattle.std.proofs.Common.{refl}
use Rattle.regress_differences.specs.Reported.{apart}
use Rattle.regress_differences.proofs.parts.apart.Goals as goal

pub returns : goal.returns
unfolding apart
returns c = refl
