-- The strings before the cursor are parsed.
use Rattle.std.proofs.Common.{length}
use Rattle.regress_lexer.specs.Views.{source}
use Rattle.regress_classes.proofs.ClassStringLemmas.{StringsUpTo}
use Rattle.regress_classes.proofs.class_sets.strings.read_strings.Given as goal

abbrev pub invariant-loop-cursor : goal.invariant-loop-cursor
invariant-loop-cursor l = StringsUpTo l.parameters (source l.fn.cursor) (source l.cursor) l.string.items l.value

abbrev pub decreases-loop-cursor : goal.decreases-loop-cursor
decreases-loop-cursor l = length (source l.cursor)
