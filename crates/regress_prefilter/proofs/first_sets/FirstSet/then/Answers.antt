use Rattle.regress_base.specs.ByteBitmap.{contains}
use Rattle.regress_prefilter.proofs.FirstSetLemmas.{front_then, and-one, and-two}
use Rattle.regress_prefilter.proofs.first_sets.FirstSet.then.Goals as goal

pub returns-then-self : goal.returns-then-self
returns-then-self c = λ bytes f g first second.
    let a = c.args.self in
    let b = c.args.next in
    front_then a b (contains c.bitor.new.self) b.through bytes f g c.bitor.ensures (and-two a.through b.through) first second

pub returns-else-self : goal.returns-else-self
returns-else-self c = λ bytes f g first second.
    let a = c.args.self in
    let b = c.args.next in
    front_then a b (contains c.bitor.new.self) a.through bytes f g c.bitor.ensures (and-one a.through b.through) first second
