use Rattle.std.proofs.Common.{◌∙◌, ◌++◌, take, sym, ap}
use Rattle.std.proofs.lemmas.List.{take_more}
use Rattle.std.specs.Char.{encode_utf8}
use Rattle.regress.specs.Source.{text_of}
use Rattle.regress.proofs.SourceLemmas.{text_of-more}
use Rattle.regress.proofs.source.text_of.Goals as goal

pub loop-c-preserved : goal.loop-c-preserved
loop-c-preserved c =
    let l = c.loop-c in
    let so_far = take l.c-index c.args.points.now in
    c.in_ok-push.ensures.bytes
    ∙ ap (λ bytes. bytes ++ encode_utf8 c.shown.result) l.invariant
    ∙ ap (λ shown. text_of so_far ++ encode_utf8 shown) c.shown.ensures
    ∙ sym (text_of-more so_far _)
    ∙ ap text_of (sym (take_more c.args.points.now l.c-index _ c.loop-c-test.true))
