-- The number so far, continued by the digits that remain, is the whole number.
use Rattle.std.proofs.Common.{◌≡◌, ◌≤◌, ◌-◌, ◌^◌, min, length}
use Rattle.regress_lexer.specs.Digits.{is_decimal, number_from, front, after}
use Rattle.regress_lexer.proofs.digits.read_on.Given as goal

abbrev pub invariant-loop-c : goal.invariant-loop-c
invariant-loop-c l = record {
  number : min (number_from 10 l.number (front is_decimal l.rest)) (2 ^ 64 - 1) ≡ min (number_from 10 l.first (front is_decimal l.source)) (2 ^ 64 - 1);
  fits : l.number ≤ 2 ^ 64 - 1;
  rest : after is_decimal l.rest ≡ after is_decimal l.source;
}

abbrev pub decreases-loop-c : goal.decreases-loop-c
decreases-loop-c l = length l.rest
