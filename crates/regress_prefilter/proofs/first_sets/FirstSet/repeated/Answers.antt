use Rattle.std.proofs.Common.{◌≡◌, ◌==◌, true, subst}
use Rattle.regress_base.specs.ByteBitmap.{contains}
use Rattle.regress_prefilter.proofs.FirstSetLemmas.{front_repeat, not-one}
use Rattle.regress_prefilter.proofs.first_sets.FirstSet.repeated.Goals as goal

pub returns-then-self : goal.returns-then-self
returns-then-self c = λ bytes f q bound start end least first.
    let a = c.args.self in
    front_repeat (contains a.bytes) a.through a.through bytes f q bound start end (λ h. c.if-self.true) first

pub returns-else-self : goal.returns-else-self
returns-else-self c = λ bytes f q bound start end least first.
    let a = c.args.self in
    front_repeat (contains a.bytes) a.through (c.args.least == 0) bytes f q bound start end
    (λ h. subst (λ n. (n == 0) ≡ true) least (not-one a.through (q.min == 0) c.if-self.false h)) first
