-- Each iteration adds one string.
use Rattle.std.proofs.Common.{◌∙◌}
use Rattle.regress_classes.proofs.ClassSetLemmas.{one_more_string, all_strings}
use Rattle.regress_classes.proofs.class_sets.others.string_set.Goals as goal

pub loop-string-preserved : goal.loop-string-preserved
loop-string-preserved c = λ s.
    c.in_ok-insert.ensures.updates.0 (record c.as_slice.result { now = s })
    ∙ one_more_string c.args.strings.now c.loop-string.string-index c.string-item.result c.as_slice.result.now s _ c.loop-string-test.true
    c.string-item.is c.as_slice.ensures.value (c.loop-string.invariant s)

pub returns : goal.returns
returns c = λ s. c.loop-string.invariant s ∙ all_strings c.args.strings.now c.loop-string.string-index s c.loop-string-test.false
