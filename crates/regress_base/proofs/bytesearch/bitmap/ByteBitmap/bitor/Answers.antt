use Rattle.std.proofs.Common.{◌<◌, ◌/◌, arith}
use Rattle.regress_base.specs.ByteBitmap.{contains}
use Rattle.regress_base.proofs.CellLemmas.{bit_in-or, or-below}
use Rattle.regress_base.proofs.bytesearch.bitmap.ByteBitmap.bitor.Goals as goal

pub returns : goal.returns
unfolding contains
returns c b =
    let old = c.args.self.now.words in
    let rhs = c.args.rhs.now.words in
    let new = c.loop-i.self.words in
    or-below 256 b _ _ _ (λ h.
    let inside : b / 16 < 16 = omega arith in
    bit_in-or 16 old rhs new b (c.loop-i.invariant.changed (b / 16) (omega arith)))
