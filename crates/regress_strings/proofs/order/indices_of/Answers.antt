-- The sorted pairs have the indices in the order of the strings.
use Rattle.std.proofs.Common.{arith}
use Rattle.regress_strings.specs.Contents.{contents}
use Rattle.regress_strings.proofs.PairLemmas.{order-from-pairs}
use Rattle.regress_strings.proofs.order.indices_of.Goals as goal

pub returns : goal.returns
returns c =
    order-from-pairs (contents c.args.strings.now) c.in_ok-pairs.pairs.items c.sort_unstable.new.self.items c.loop-place.indices.items c.in_ok-pairs.ensures
    c.sort_unstable.ensures.permutation c.sort_unstable.ensures.sorted (omega arith) c.loop-place.invariant.index
