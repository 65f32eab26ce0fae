use Rattle.std.proofs.Common.{refl, ◌-◌, ◌^◌, take, get_or}
use Rattle.regress_lexer.specs.Digits.{digit, number_from}
use Rattle.regress_lexer.proofs.lemmas.Digits.{number_from-more, saturates}
use Rattle.regress_lexer.proofs.digits.number_from.Goals as goal

pub loop-c-preserved : goal.loop-c-preserved
loop-c-preserved c =
    let i = c.loop-c.c-index in
    let t = c.args.digits.now in
    let step = saturates c.args.base (number_from c.args.base c.args.first (take i t)) (digit (get_or t i 0)) (2 ^ 64 - 1) c.requires in
    let more = number_from-more c.args.base c.args.first t i 0 c.loop-c-test.true in
    rw more (rw (← step, c.saturating_add-number.ensures, c.saturating_mul.ensures, c.digit.ensures, c.loop-c.invariant) refl)
