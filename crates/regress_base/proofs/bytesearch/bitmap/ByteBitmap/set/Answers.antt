use Rattle.std.proofs.Common.{◌<◌, ◌%◌, ◌/◌, length, arith, rules, ltb, ◌&&◌, ◌∙◌, ap}
use Rattle.regress_base.specs.ByteBitmap.{contains}
use Rattle.regress_base.specs.ByteSets.{bit_in}
use Rattle.regress_base.proofs.CellLemmas.{bit_in-with_bit, or-guarded}
use Rattle.std.specs.Int.{w16}
use Rattle.regress_base.proofs.bytesearch.bitmap.ByteBitmap.set.Goals as goal

pub returns : goal.returns
unfolding contains
returns c b =
    let v = c.args.val in
    let words = c.args.self.now.words in
    let low : v % 16 < 16 = omega arith in
    let h = c.well_formed in let inside : v / 16 < length words = search rules in
    ap (λ x. ltb b 256 && x) (bit_in-with_bit w16 words v b low inside) ∙ or-guarded 256 v b (bit_in 16 words b) c.ranges.val.fits
