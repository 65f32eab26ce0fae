-- The matches in the texts so far are written.
use Rattle.regex_lines.specs.Paint.{line_paint_of}
use Rattle.regex_lines.specs.Prefix.{text_of}
use Rattle.regex_lines.proofs.MatchLemmas.{FirstTexts}
use Rattle.regex_lines.proofs.matches.write_in.Given as goal

abbrev pub invariant-loop-run : goal.invariant-loop-run
invariant-loop-run g l =
    FirstTexts l.fn.writer.searcher.now.regex.now l.fn.writer.show.shown (line_paint_of l.fn.writer.show.paint) (text_of l.fn.writer.prefix) l.fn.texts
    (g.W.Write.contents l.fn.out) l.run-index l.written.any l.written.prefix.items (g.W.Write.contents l.out)
