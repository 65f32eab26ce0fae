-- The characters so far, followed by the rest that remains to be parsed, are the whole name.
use Rattle.std.proofs.Common.{◌≡◌, length}
use Rattle.regress_unicode.specs.TableOf.{table_of}
use Rattle.regress_syntax.proofs.NameLemmas.{rest_of_name, after_parsed}
use Rattle.regress_syntax.proofs.names.parse_rest_of_name.Given as goal

abbrev pub invariant-loop-rest : goal.invariant-loop-rest
invariant-loop-rest l =
    after_parsed l.fn.name.items (rest_of_name (table_of l.tables) l.source) ≡ after_parsed l.name.items (rest_of_name (table_of l.tables) l.left)

abbrev pub decreases-loop-rest : goal.decreases-loop-rest
decreases-loop-rest l = length l.left
