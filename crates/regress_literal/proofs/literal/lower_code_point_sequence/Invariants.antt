-- The pieces found, and those of the remaining literals after the text, are the pieces of all literals.
use Rattle.std.proofs.Common.{map, string_bytes}
use Rattle.regress_literal.specs.Literal.{piece}
use Rattle.regress_unicode.specs.TableOf.{table_of}
use Rattle.regress_literal.proofs.LoweringLemmas.{ArePieces}
use Rattle.regress_literal.proofs.literal.lower_code_point_sequence.Given as goal

abbrev pub invariant-loop-c : goal.invariant-loop-c
invariant-loop-c l =
    ArePieces (table_of l.tables) l.icase l.unicode (map piece l.pieces.items) (string_bytes l.text) l.cps l.c-index
