use Rattle.std.proofs.Common.{◌≡◌, min}
use Rattle.regress.specs.Letters.{count}
use Rattle.regress.proofs.letters.count.Given as goal

-- the letter is counted in the characters so far
abbrev pub invariant-loop-c : goal.invariant-loop-c
invariant-loop-c l = l.times ≡ min (count l.yielded l.letter) 18446744073709551615
