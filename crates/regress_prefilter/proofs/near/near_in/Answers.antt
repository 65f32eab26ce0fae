use Rattle.std.proofs.Common.{refl}
use Rattle.regress_prefilter.proofs.NearLemmas.{needs_in}
use Rattle.regress_prefilter.proofs.near.near_in.Goals as goal

pub returns : goal.returns
returns c = λ bytes. needs_in _ bytes c.args.written.now c.in_ok-index.ensures refl
