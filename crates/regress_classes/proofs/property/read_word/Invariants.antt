-- The word before the cursor is parsed, and it is ASCII.
use Rattle.std.proofs.Common.{length}
use Rattle.std.specs.Str.{IsAscii}
use Rattle.regress_lexer.specs.Views.{source}
use Rattle.regress_classes.proofs.PropertyLemmas.{WordUpTo}
use Rattle.regress_classes.proofs.property.read_word.Given as goal

abbrev pub invariant-loop-c : goal.invariant-loop-c
invariant-loop-c l = WordUpTo (source l.fn.cursor) (source l.cursor) l.word.items × IsAscii l.word.items

abbrev pub decreases-loop-c : goal.decreases-loop-c
decreases-loop-c l = length (source l.cursor)
