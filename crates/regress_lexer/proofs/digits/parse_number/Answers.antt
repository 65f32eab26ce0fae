use Rattle.regress_lexer.proofs.lemmas.Digits.{counted_digits}
use Rattle.regress_lexer.proofs.digits.parse_number.Goals as goal

pub returns : goal.returns
returns c =
    counted_digits c.in_ok-c.c c.in_ok-c.rest.now c.args.source.now _ _ _ c.in_ok-c.ensures.some.0 c.in_ok-c.ensures.some.1 c.digit.ensures
    c.read_on.ensures.number c.read_on.ensures.rest
