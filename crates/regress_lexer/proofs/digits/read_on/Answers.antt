use Rattle.std.proofs.Common.{◌≡◌, ◌*◌, ◌+◌, ◌-◌, ◌^◌, min, ◌∷◌, sym, ap, ◌∙◌, arith}
use Rattle.regress_lexer.specs.Source.{Source}
use Rattle.regress_lexer.specs.Digits.{is_decimal, digit, number_from, front, after}
use Rattle.regress_lexer.proofs.lemmas.Digits.{cut_digit, front_digit, after_digit}
use Rattle.regress_lexer.proofs.digits.read_on.Goals as goal

pub loop-c-preserved : goal.loop-c-preserved
loop-c-preserved c =
    let left = front is_decimal c.in-Some.after.now in
    let front_is : front is_decimal c.loop-c.rest.now ≡ c.in-Some.c ∷ left =
    ap (front is_decimal) c.in-Some.ensures.some.0 ∙ front_digit c.in-Some.c c.in-Some.after.now c.in-Some.ensures.some.1 in
    let step : c.saturating_add-number.result ≡ min (min (c.loop-c.number * 10) (2 ^ 64 - 1) + digit c.in-Some.c) (2 ^ 64 - 1) =
    omega (arith, c.saturating_add-number.ensures, c.saturating_mul.ensures, c.digit.ensures) in
    record {
      number = ap (λ n. min (number_from 10 n left) (2 ^ 64 - 1)) step
          ∙ cut_digit c.loop-c.number (digit c.in-Some.c) (2 ^ 64 - 1) left
          ∙ ap (λ (t : Source). min (number_from 10 c.loop-c.number t) (2 ^ 64 - 1)) (sym front_is)
          ∙ c.loop-c.invariant.number;
      fits = omega (arith, step);
      rest = sym (ap (after is_decimal) c.in-Some.ensures.some.0 ∙ after_digit c.in-Some.c c.in-Some.after.now c.in-Some.ensures.some.1)
          ∙ c.loop-c.invariant.rest;
    }

pub returns-clause-number : goal.returns-clause-number
returns-clause-number c =
    let none = ap (λ (t : Source). min (number_from 10 c.loop-c.number t) (2 ^ 64 - 1)) c.in_default.ensures.no_digit in
    let fits = c.loop-c.invariant.fits in
    let same : min c.loop-c.number (2 ^ 64 - 1) ≡ c.loop-c.number = omega arith in
    sym same ∙ sym none ∙ c.loop-c.invariant.number
