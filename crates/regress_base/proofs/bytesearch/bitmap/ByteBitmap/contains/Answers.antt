use Rattle.std.proofs.Common.{◌<◌, ◌%◌, ◌/◌, get_or, arith}
use Rattle.regress_base.specs.ByteBitmap.{contains}
use Rattle.regress_base.specs.ByteSets.{bit_in}
use Rattle.std.proofs.lemmas.Bool.{lt-ltb}
use Rattle.regress_base.proofs.CellLemmas.{tested}
use Rattle.std.specs.Int.{w16}
use Rattle.regress_base.proofs.bytesearch.bitmap.ByteBitmap.contains.Goals as goal

pub returns : goal.returns
unfolding contains bit_in
returns c =
    let v = c.args.val in
    let low : v % 16 < 16 = omega arith in
    rw (lt-ltb v 256 c.ranges.val.fits) (tested w16 (get_or c.args.self.now.words (v / 16) 0) (v % 16) low)
