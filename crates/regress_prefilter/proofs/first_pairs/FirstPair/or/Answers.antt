use Rattle.regress_base.specs.ByteBitmap.{contains}
use Rattle.regress_prefilter.proofs.FirstPairLemmas.{pair_or}
use Rattle.regress_prefilter.proofs.first_pairs.FirstPair.or.Goals as goal

pub returns : goal.returns
returns c = λ bytes f g first second.
    pair_or c.args.self c.args.other (contains c.union_if.result) (contains c.union_if-2.result) bytes f g c.union_if.ensures c.union_if-2.ensures first second
