use Rattle.std.proofs.Common.{map, subst, sym}
use Rattle.regex_lines.specs.Paint.{line_paint_of}
use Rattle.regex_lines.specs.Prefix.{text_of}
use Rattle.regex_lines.specs.Reply.{ShowsIf, run_of}
use Rattle.regex_lines.proofs.FoundLemmas.{without}
use Rattle.regex_lines.proofs.reply.selected_by_test.Goals as goal

pub returns-in_ok-bytes-clause-shows : goal.returns-in_ok-bytes-clause-shows
returns-in_ok-bytes-clause-shows c =
    let r = c.args.searcher.now.regex.now in
    let shown = c.args.show.shown in
    let p = line_paint_of c.args.show.paint in
    let line = c.args.line.bytes.now in
    let texts = map run_of c.args.line.texts.now in
    let prefix = text_of c.args.prefix in
    subst (λ selected. ShowsIf r line texts selected shown p prefix c.in_ok-bytes.bytes.items) (sym c.if-selected.true)
    (without r line texts shown p prefix c.in_ok-bytes.bytes.items c.requires c.in_ok-bytes.ensures)
