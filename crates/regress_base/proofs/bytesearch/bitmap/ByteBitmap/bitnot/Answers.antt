use Rattle.std.proofs.Common.{◌<◌, ◌/◌, ◌%◌, get_or, ◌^◌, arith, rules}
use Rattle.std.specs.Int.{w16}
use Rattle.regress_base.specs.ByteBitmap.{contains}
use Rattle.regress_base.proofs.CellLemmas.{bit_in-not, not-below}
use Rattle.regress_base.proofs.bytesearch.bitmap.ByteBitmap.bitnot.Goals as goal

pub returns-clause-complement : goal.returns-clause-complement
unfolding contains
returns-clause-complement c b =
    let old = c.args.self.now.words in
    let new = c.loop-i.self.words in
    not-below 256 b _ _ (λ h.
    let inside : b / 16 < 16 = omega arith in
    let low : b % 16 < 16 = omega arith in
    let fits : get_or old (b / 16) 0 < 2 ^ 16 = c.loop-i.invariant.fit (b / 16) (omega arith) in
    bit_in-not w16 old new b low fits (c.loop-i.invariant.cells.changed (b / 16) (omega arith)))

pub loop-i-preserved : goal.loop-i-preserved
loop-i-preserved c = search rules
