use Rattle.regress_base.specs.ByteBitmap.{contains}
use Rattle.regress_base.proofs.CountLemmas.{IsFilled}
use Rattle.regress_base.proofs.bytesearch.bitmap.ByteBitmap.as_array.Given as goal

abbrev pub invariant-loop-b : goal.invariant-loop-b
invariant-loop-b g l = IsFilled (contains l.self) g.row.N l.b l.len l.array
