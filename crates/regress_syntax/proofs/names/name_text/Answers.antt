use Rattle.std.proofs.Common.{◌++◌, take, append-nil, encode_utf8_all, sym, ap, ◌∙◌}
use Rattle.std.proofs.lemmas.List.{take_more}
use Rattle.std.proofs.lemmas.Str.{encodes-append}
use Rattle.std.specs.Char.{encode_utf8}
use Rattle.regress_syntax.proofs.names.name_text.Goals as goal

pub loop-c-preserved : goal.loop-c-preserved
loop-c-preserved c =
    let l = c.loop-c in
    let front = take l.c-index c.args.name.now in
    c.in_ok-push.ensures.bytes
    ∙ ap (λ bytes. bytes ++ encode_utf8 c.c-item.result) l.invariant
    ∙ sym (ap encode_utf8_all (take_more c.args.name.now l.c-index c.c-item.result c.loop-c-test.true)
    ∙ encodes-append front _
    ∙ ap (λ bytes. encode_utf8_all front ++ bytes) (append-nil _ ∙ ap encode_utf8 (sym c.c-item.is)))
