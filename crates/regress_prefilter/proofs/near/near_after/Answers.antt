use Rattle.std.proofs.Common.{refl}
use Rattle.regress_prefilter.proofs.NearLemmas.{needs_later}
use Rattle.regress_prefilter.proofs.near.near_after.Goals as goal

pub returns : goal.returns
returns c = λ bytes f g on up needs.
    needs_later c.in_ok-near.near _ bytes c.in_ok-width.field-0 refl refl c.in_ok-within.ensures.1 f g on (rw c.in_ok-width.was at up)
    (rw c.in_ok-near.was at needs)
