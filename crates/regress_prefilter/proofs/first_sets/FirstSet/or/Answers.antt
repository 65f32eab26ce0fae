use Rattle.std.proofs.Common.{◌≡◌, true}
use Rattle.regress_base.specs.ByteBitmap.{contains}
use Rattle.regress_prefilter.proofs.FirstSetLemmas.{front_or}
use Rattle.regress_prefilter.proofs.first_sets.FirstSet.or.Goals as goal

pub returns-then-self : goal.returns-then-self
returns-then-self c = λ bytes f g first second.
    let a = c.args.self in
    let b = c.args.other in
    front_or a b (contains c.bitor.new.self) a.through bytes f g c.bitor.ensures (λ h. h) (λ (h : b.through ≡ true). cc) first second

pub returns-else-self : goal.returns-else-self
returns-else-self c = λ bytes f g first second.
    let a = c.args.self in
    let b = c.args.other in
    front_or a b (contains c.bitor.new.self) b.through bytes f g c.bitor.ensures (λ (h : a.through ≡ true). cc) (λ h. h) first second
