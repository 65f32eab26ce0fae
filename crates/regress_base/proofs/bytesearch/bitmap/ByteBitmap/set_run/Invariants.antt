-- The bytes of the words before `word` are added.
use Rattle.std.proofs.Common.{◌≡◌, ℕ, ◌*◌, ◌&&◌, ◌||◌, nat_le, nat_lt}
use Rattle.regress_base.specs.ByteBitmap.{contains}
use Rattle.regress_base.proofs.bytesearch.bitmap.ByteBitmap.set_run.Given as goal

abbrev pub invariant-loop-word : goal.invariant-loop-word
invariant-loop-word l = (k : ℕ) → contains l.self k
    ≡ (((nat_le l.fn.first k && nat_le k l.fn.last) && nat_lt k (l.word * 16)) || contains l.initial.self k)
