use Rattle.regress_lexer.specs.Views.{source}
use Rattle.regress_syntax.specs.Views.{group_of, context_of, names_in}
use Rattle.regress_unicode.specs.TableOf.{table_of}
use Rattle.regress_parse.proofs.LengthLemmas.{head-shorter}
use Rattle.regress_parse.proofs.heads.parse_head.Goals as goal

pub returns-clause-lengths : goal.returns-clause-lengths
returns-clause-lengths c =
    let scope = c.args.scope.now in
    head-shorter (table_of scope.tables.now) (names_in scope.groups.now) (context_of scope) group_of (source c.args.cursor.now)
    (source c.parse_group.new.cursor) c.parse_group.result c.parse_group.ensures.value
