use Rattle.std.proofs.Common.{◌∙◌, ◌++◌, ap, append-nil, sym}
use Rattle.regress.specs.Compiled.{match_of}
use Rattle.regex_lines.specs.Paint.{line_paint_of}
use Rattle.regex_lines.specs.Reply.{run_of}
use Rattle.regex_lines.proofs.MatchLemmas.{none_by}
use Rattle.regex_lines.proofs.matches.add_output.Goals as goal

pub returns-in-Lines : goal.returns-in-Lines
returns-in-Lines c =
    let to = c.args.to.now.items in
    sym (ap (λ more. to ++ more) (none_by c.args.writer.searcher.now.regex.now c.args.writer.show.shown (line_paint_of c.args.writer.show.paint) c.args.prefix.now
    (run_of c.args.run) (match_of c.args.found.now) c.in-Lines.is)
    ∙ append-nil to)
