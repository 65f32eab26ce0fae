use Rattle.regress_unicode.specs.TableOf.{table_of}
use Rattle.regress_lexer.proofs.lemmas.Sources.{ok_from_both}
use Rattle.regress_parse.proofs.BuildLemmas.{closed_is, unclosed_is}
use Rattle.regress_parse.proofs.build.close.Goals as goal

pub returns-then-flags : goal.returns-then-flags
returns-then-flags c =
    ok_from_both c.add_icase_code_points.result _ _ _
    (λ closed closes canonical members has.
    closed_is (table_of c.args.tables.now) c.args.flags members c.args.set closed c.if-flags.true closes canonical has)
    c.add_icase_code_points.ensures.members c.add_icase_code_points.ensures.canonical

pub returns-else-flags : goal.returns-else-flags
returns-else-flags c members has = unclosed_is (table_of c.args.tables.now) c.args.flags members c.args.set c.if-flags.false has
