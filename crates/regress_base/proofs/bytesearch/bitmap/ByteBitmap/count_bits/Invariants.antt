use Rattle.std.proofs.Common.{◌≡◌, ◌*◌}
use Rattle.regress_base.specs.ByteBitmap.{contains}
use Rattle.regress_base.proofs.CountLemmas.{count_below}
use Rattle.regress_base.proofs.bytesearch.bitmap.ByteBitmap.count_bits.Given as goal

abbrev pub invariant-loop-word : goal.invariant-loop-word
invariant-loop-word l = l.count ≡ count_below (contains l.self) (l.word-index * 16)
