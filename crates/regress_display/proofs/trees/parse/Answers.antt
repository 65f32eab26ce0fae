use Rattle.regress_unicode.specs.TableOf.{table_of}
use Rattle.regress_display.specs.Shown.{shows_spans}
use Rattle.regress_display.proofs.ShownLemmas.{parsed_asked, rejected_asked}
use Rattle.regress_display.proofs.trees.parse.Goals as goal

pub returns-clause-parsed : goal.returns-clause-parsed
returns-clause-parsed c =
    let request = c.args.request.now in
    let found = c.parse_with in
    parsed_asked (shows_spans request.format request.stage) request.dialect request.flags c.args.points.now found.result request.small
    (table_of c.in_ok-tables.tables) c.in_ok-tables.ensures found.ensures.parsed

pub returns-clause-rejected : goal.returns-clause-rejected
returns-clause-rejected c =
    let request = c.args.request.now in
    let found = c.parse_with in
    rejected_asked (shows_spans request.format request.stage) request.dialect request.flags c.args.points.now found.result request.small
    (table_of c.in_ok-tables.tables) c.in_ok-tables.ensures found.ensures.rejected
