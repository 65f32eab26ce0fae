use Rattle.std.proofs.Common.{◌≡◌, ◌≤◌, true, All}
use Rattle.std.specs.Prelude.{chars}
use Rattle.regress.specs.Letters.{count, is_known}
use Rattle.regress.proofs.letters.check_letters.Given as goal

-- each letter so far is known and occurs once
abbrev pub invariant-loop-letter : goal.invariant-loop-letter
invariant-loop-letter l = record {
  known : All (λ c. is_known c ≡ true) l.yielded;
  once : All (λ c. count (chars l.letters) c ≤ 1) l.yielded;
}
