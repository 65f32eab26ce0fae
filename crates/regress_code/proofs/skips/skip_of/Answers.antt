use Rattle.std.proofs.Common.{IfSome, slice_get, subst}
use Rattle.regress_code.specs.Skips.{IsPreferred}
use Rattle.regress_code.proofs.SkipLemmas.{more_counts}
use Rattle.regress_code.proofs.skips.skip_of.Goals as goal

pub returns-in_ok-counts-in-Some-preferred : goal.returns-in_ok-counts-in-Some-preferred
returns-in_ok-counts-in-Some-preferred c = λ next_bytes instructions pc preferred counted.
    more_counts next_bytes instructions pc c.in-Some-preferred.set (subst (λ o. IfSome o (IsPreferred next_bytes pc (slice_get instructions pc))) c.in-Some-preferred.is preferred)
    c.args.before.now c.in_ok-counts-in-Some-preferred.counts.items counted c.in_ok-counts-in-Some-preferred.ensures
