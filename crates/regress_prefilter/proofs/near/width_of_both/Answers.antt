use Rattle.regress_prefilter.proofs.NearLemmas.{at_most_then, if_fits}
use Rattle.regress_prefilter.proofs.near.width_of_both.Goals as goal

pub returns : goal.returns
returns c =
    if_fits c.checked_add.result _ _ _ c.checked_add.ensures
    (λ f g first second. at_most_then c.in_ok-first.field-0 c.in_ok-second.field-0 f g (rw c.in_ok-first.was at first) (rw c.in_ok-second.was at second))
