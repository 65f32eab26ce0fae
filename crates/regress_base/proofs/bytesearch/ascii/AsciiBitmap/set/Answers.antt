use Rattle.std.proofs.Common.{◌<◌, ◌%◌, ◌/◌, length, arith, rules, ltb, ◌&&◌, ◌∙◌, ap}
use Rattle.std.specs.Int.{w8}
use Rattle.regress_base.specs.AsciiBitmap.{ascii_contains}
use Rattle.regress_base.specs.ByteSets.{bit_in}
use Rattle.regress_base.proofs.CellLemmas.{bit_in-with_bit, or-guarded}
use Rattle.regress_base.proofs.bytesearch.ascii.AsciiBitmap.set.Goals as goal

pub returns : goal.returns
unfolding ascii_contains
returns c b =
    let v = c.args.val in
    let cells = c.args.self.now.0 in
    let low : v % 8 < 8 = omega arith in
    let inside : v / 8 < length cells = search rules in
    let small : v < 128 = omega arith in
    ap (λ x. ltb b 128 && x) (bit_in-with_bit w8 cells v b low inside) ∙ or-guarded 128 v b (bit_in 8 cells b) small
