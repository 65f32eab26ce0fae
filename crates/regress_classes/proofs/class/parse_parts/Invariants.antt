-- The parts before the cursor are parsed.
use Rattle.std.proofs.Common.{length}
use Rattle.regress_unicode.specs.TableOf.{table_of}
use Rattle.regress_lexer.specs.Views.{source}
use Rattle.regress_classes.proofs.ClassLemmas.{ReadUpTo}
use Rattle.regress_classes.proofs.class.parse_parts.Given as goal

abbrev pub invariant-loop-cursor : goal.invariant-loop-cursor
invariant-loop-cursor l = ReadUpTo (table_of l.around.tables.now) l.around.parameters.now (source l.fn.cursor) (source l.cursor) l.gathered

abbrev pub decreases-loop-cursor : goal.decreases-loop-cursor
decreases-loop-cursor l = length (source l.cursor)
