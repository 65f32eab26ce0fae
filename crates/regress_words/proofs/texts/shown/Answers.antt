use Rattle.std.proofs.lemmas.List.{take_more}
use Rattle.regress_words.proofs.TextLemmas.{shown_more}
use Rattle.regress_words.proofs.texts.shown.Goals as goal

pub loop-c-preserved : goal.loop-c-preserved
loop-c-preserved c =
    rw (take_more c.args.text.now c.loop-c.c-index 0 c.loop-c-test.true)
    (shown_more _ _ _ _ c.loop-c.invariant c.in_ok-push_after.ensures)
