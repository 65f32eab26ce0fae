use Rattle.std.proofs.Common.{refl}
use Rattle.regress_prefilter.proofs.NearLemmas.{needs_before}
use Rattle.regress_prefilter.proofs.near.near_before.Goals as goal

pub returns : goal.returns
returns c = λ bytes. needs_before _ bytes c.args.written.now c.in_ok-index.index c.in_ok-index.ensures refl refl
