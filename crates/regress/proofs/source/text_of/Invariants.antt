-- the text of the code points so far
use Rattle.std.proofs.Common.{◌≡◌, take, string_bytes}
use Rattle.regress.specs.Source.{text_of}
use Rattle.regress.proofs.source.text_of.Given as goal

abbrev pub invariant-loop-c : goal.invariant-loop-c
invariant-loop-c l = string_bytes l.text ≡ text_of (take l.c-index l.points)
