-- the characters so far
use Rattle.std.proofs.Common.{string_bytes, take}
use Rattle.regress_labels.specs.Symbols.{IsShownText}
use Rattle.regress_words.proofs.texts.shown.Given as goal

abbrev pub invariant-loop-c : goal.invariant-loop-c
invariant-loop-c l = IsShownText (take l.c-index l.text) (string_bytes l.shown)
