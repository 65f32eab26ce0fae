use Rattle.std.proofs.Common.{◌∙◌, ◌||◌, ◌&&◌, ap}
use Rattle.regress_base.specs.ByteBitmap.{contains}
use Rattle.regress_prefilter.proofs.FirstPairLemmas.{pair_then}
use Rattle.regress_prefilter.proofs.first_pairs.FirstPair.then.Goals as goal

pub returns : goal.returns
returns c = λ bytes f g first second.
    let a = c.args.self in
    let b = c.args.next in
    pair_then a b (contains c.union_if.result) (contains c.union_if-2.result) bytes f g c.union_if.ensures
    (λ x. c.union_if-2.ensures x ∙ ap (λ y. y || (a.empty && contains b.second x)) (c.union_if-second.ensures x)) first second
