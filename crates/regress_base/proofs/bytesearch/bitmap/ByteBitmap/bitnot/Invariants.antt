use Rattle.std.proofs.Common.{get_or, ◌-◌, ◌<◌, ◌^◌, ℕ}
use Rattle.regress_base.proofs.CellLemmas.{CellsUpTo}
use Rattle.regress_base.proofs.bytesearch.bitmap.ByteBitmap.bitnot.Given as goal

abbrev pub invariant-loop-i : goal.invariant-loop-i
invariant-loop-i l = record {
  cells : CellsUpTo l.i (λ k. 65535 - get_or l.initial.self.words k 0) l.initial.self.words l.self.words;
  fit : (k : ℕ) → k < l.i → get_or l.initial.self.words k 0 < 2 ^ 16;
}
