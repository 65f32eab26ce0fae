use Rattle.std.proofs.Common.{◌||◌, eqb, get_or, sym, ap, ◌∙◌}
use Rattle.std.proofs.lemmas.List.{take_all}
use Rattle.regress_base.specs.ByteSets.{bytes_of}
use Rattle.regress_base.proofs.BitmapLemmas.{bytes_of-none, bytes_of-more}
use Rattle.regress_base.proofs.bytesearch.bitmap.ByteBitmap.new.Goals as goal

pub loop-b-init : goal.loop-b-init
loop-b-init c = λ b. c.default-bitmap.ensures b ∙ sym (bytes_of-none b)

pub loop-b-preserved : goal.loop-b-preserved
loop-b-preserved c = λ b. c.set.ensures b ∙ ap (λ x. eqb b (get_or c.args.bytes.now c.loop-b.b-index 0) || x) (c.loop-b.invariant b)
    ∙ sym (bytes_of-more c.args.bytes.now c.loop-b.b-index b c.loop-b-test.true (c.type_inv.bytes c.loop-b.b-index).fits)

pub returns : goal.returns
returns c = λ b. c.loop-b.invariant b ∙ ap (λ xs. bytes_of xs b) (take_all c.loop-b.b-index c.args.bytes.now c.loop-b-test.false)
