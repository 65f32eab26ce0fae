use Rattle.std.proofs.Common.{◌≡◌, ◌+◌, ◌*◌, ◌<◌, ◌^◌, get_or, ap, ◌∙◌, arith, rules}
use Rattle.regress_base.specs.ByteBitmap.{contains}
use Rattle.regress_base.proofs.BitmapLemmas.{count_below-word}
use Rattle.regress_base.proofs.CountLemmas.{count_below, count_below-bound, member_count-is}
use Rattle.regress_base.proofs.bytesearch.bitmap.ByteBitmap.count_bits.Goals as goal

pub overflow_add-count : goal.overflow_add-count
overflow_add-count c =
    let s = c.args.self.now in
    let i = c.loop-word.word-index in
    let fits : get_or s.words i 0 < 2 ^ 16 = search rules in
    let more = count_below-word s i (omega arith) fits in
    let bound = count_below-bound (contains s) ((i + 1) * 16) in
    omega arith

pub loop-word-preserved : goal.loop-word-preserved
loop-word-preserved c =
    let s = c.args.self.now in
    let i = c.loop-word.word-index in
    let fits : get_or s.words i 0 < 2 ^ 16 = search rules in
    let more = count_below-word s i (omega arith) fits in
    omega arith

pub returns-clause-members : goal.returns-clause-members
returns-clause-members c =
    let s = c.args.self.now in
    let e : c.loop-word.word-index ≡ 16 = omega arith in
    c.loop-word.invariant ∙ ap (λ i. count_below (contains s) (i * 16)) e ∙ member_count-is (contains s)

pub returns-clause-bound : goal.returns-clause-bound
returns-clause-bound c =
    let bound = count_below-bound (contains c.args.self.now) (c.loop-word.word-index * 16) in
    omega arith
