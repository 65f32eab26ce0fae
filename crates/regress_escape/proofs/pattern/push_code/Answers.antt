-- The escape has two digits or four.
use Rattle.regress_escape.proofs.EncodingLemmas.{short_code, long_code, on_ok_from}
use Rattle.regress_escape.proofs.pattern.push_code.Goals as goal

pub returns-then-code-le255 : goal.returns-then-code-le255
returns-then-code-le255 c =
    on_ok_from c.push_byte.result
    (short_code c.args.c c.from-code.result _ _ _ c.from-code.ensures c.if-code-le255.true c.in_ok-push_escaped.ensures) c.push_byte.ensures

pub returns : goal.returns
returns c =
    on_ok_from c.push_byte-3.result
    (long_code c.args.c c.from-code.result _ _ _ _ c.from-code.ensures c.if-code-le255.false c.in_ok-push_escaped-2.ensures c.in_ok-push_byte.ensures)
    c.push_byte-3.ensures
