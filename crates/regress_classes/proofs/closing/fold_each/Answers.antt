-- Each iteration folds one string.
use Rattle.std.proofs.Common.{map, ap, ◌∙◌}
use Rattle.regress_classes.specs.ClassViews.{strings_of}
use Rattle.regress_unicode.specs.TableOf.{table_of}
use Rattle.regress_classes.proofs.ClosingLemmas.{one_more_folded}
use Rattle.regress_classes.proofs.closing.fold_each.Goals as goal

pub loop-string-preserved : goal.loop-string-preserved
loop-string-preserved c =
    let table = table_of c.args.tables.now in
    ap strings_of c.in_ok-push.ensures.items
    ∙ one_more_folded (map table.fold) c.args.strings.now c.loop-string.folded.items c.loop-string.string-index c.string-item.result
    c.in_ok-fold_string.field-0 c.loop-string-test.true c.string-item.is
    (c.in_ok-fold_string.ensures ∙ ap (map table.fold) c.deref.ensures.value) c.loop-string.invariant
