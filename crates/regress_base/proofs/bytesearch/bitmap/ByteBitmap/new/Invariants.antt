use Rattle.std.proofs.Common.{take}
use Rattle.regress_base.specs.ByteBitmap.{contains}
use Rattle.regress_base.specs.ByteSets.{bytes_of, SameMembers}
use Rattle.regress_base.proofs.bytesearch.bitmap.ByteBitmap.new.Given as goal

abbrev pub invariant-loop-b : goal.invariant-loop-b
invariant-loop-b l = SameMembers (contains l.bitmap) (bytes_of (take l.b-index l.bytes))
