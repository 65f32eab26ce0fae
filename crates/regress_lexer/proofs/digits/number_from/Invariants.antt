use Rattle.std.proofs.Common.{◌≡◌, ◌-◌, ◌^◌, min, take}
use Rattle.regress_lexer.specs.Digits.{number_from}
use Rattle.regress_lexer.proofs.digits.number_from.Given as goal

abbrev pub invariant-loop-c : goal.invariant-loop-c
invariant-loop-c l = l.number ≡ min (number_from l.base l.first (take l.c-index l.digits)) (2 ^ 64 - 1)
