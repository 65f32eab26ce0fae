-- The closure has the members of the closure of what was written.
use Rattle.std.proofs.Common.{sym, ◌∙◌}
use Rattle.regress_lexer.proofs.lemmas.Sources.{ok_from_both}
use Rattle.regress_unicode.specs.TableOf.{table_of}
use Rattle.regress_classes.proofs.ClosingLemmas.{closed_has}
use Rattle.regress_classes.proofs.closing.close.Goals as goal

pub returns-then-closes : goal.returns-then-closes
returns-then-closes c =
    ok_from_both c.add_icase_code_points.result _ _ _
    (λ closed each canonical members has.
    closed_has (table_of c.args.tables.now) c.args.parameters.now members (sym c.closes.ensures ∙ c.if-closes.true) c.args.set closed each canonical has)
    c.add_icase_code_points.ensures.members c.add_icase_code_points.ensures.canonical
