-- No character so far is in two parts.
use Rattle.std.proofs.Common.{◌≡◌, false}
use Rattle.regress_warnings.specs.Classes.{parts, have_twice, some_below}
use Rattle.regress_warnings.proofs.repeated.some_twice.Given as goal

abbrev pub invariant-loop-c : goal.invariant-loop-c
invariant-loop-c l = some_below l.c (λ c. have_twice c (parts l.inside)) ≡ false
