use Rattle.std.proofs.Common.{◌∙◌, arith}
use Rattle.regress_rewrite.proofs.lemmas.Checked.{sum_of}
use Rattle.regress_rewrite.proofs.SpliceLemmas.{flat_len-more}
use Rattle.regress_rewrite.proofs.flatten.spliced_len.Goals as goal

pub loop-part-preserved : goal.loop-part-preserved
loop-part-preserved c =
    let more = flat_len-more c.args.parts.now c.loop-part.part-index c.part-item.result c.loop-part-test.true c.part-item.is in
    sum_of _ _ _ c.checked_add.result c.checked_add.ensures c.in_ok-len.ensures.value
    ∙ omega (arith, more, c.loop-part.invariant, c.parts_len.ensures)
