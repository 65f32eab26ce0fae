use Rattle.std.proofs.Common.{◌≡◌, drop}
use Rattle.regress_arguments.specs.Letters.{no_flags, with_letters}
use Rattle.regress_arguments.proofs.flags.parse_flags.Given as goal

-- the remaining letters, added to the flags so far, yield what all letters yield from no flags
abbrev pub invariant-loop-letter : goal.invariant-loop-letter
invariant-loop-letter l = with_letters l.flags (drop l.letter-index l.letters) ≡ with_letters no_flags l.letters
