use Rattle.std.proofs.Common.{get_or, bit_or}
use Rattle.regress_base.proofs.CellLemmas.{CellsUpTo}
use Rattle.regress_base.proofs.bytesearch.bitmap.ByteBitmap.bitor.Given as goal

abbrev pub invariant-loop-i : goal.invariant-loop-i
invariant-loop-i l = CellsUpTo l.i (λ k. bit_or (get_or l.initial.self.words k 0) (get_or l.rhs.words k 0)) l.initial.self.words
    l.self.words
