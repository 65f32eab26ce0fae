use Rattle.std.proofs.Common.{◌<◌, ◌≤◌, ◌%◌, ◌/◌, get_or, arith, refl}
use Rattle.std.specs.Int.{w8}
use Rattle.std.proofs.lemmas.Bool.{lt-ltb, le-ltb, lt-leb}
use Rattle.regress_base.specs.AsciiBitmap.{ascii_contains}
use Rattle.regress_base.specs.ByteSets.{bit_in}
use Rattle.regress_base.proofs.CellLemmas.{tested}
use Rattle.regress_base.proofs.bytesearch.ascii.AsciiBitmapByteSet.contains.Goals as goal

pub returns-then-val-le-ASCII_MAX : goal.returns-then-val-le-ASCII_MAX
unfolding ascii_contains bit_in
returns-then-val-le-ASCII_MAX c =
    let v = c.args.val in
    let low : v % 8 < 8 = omega arith in
    let small : v < 128 = omega arith in
    rw (lt-ltb v 128 small) (tested w8 (get_or c.args.self.now.0 (v / 8) 0) (v % 8) low)

pub returns-else-val-le-ASCII_MAX : goal.returns-else-val-le-ASCII_MAX
unfolding ascii_contains
returns-else-val-le-ASCII_MAX c =
    let v = c.args.val in
    let large : 128 ≤ v = omega arith in
    rw (le-ltb v 128 large, lt-leb v 127 large) refl
