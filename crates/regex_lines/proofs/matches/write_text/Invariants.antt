-- The matches so far are written.
use Rattle.regex_lines.specs.Paint.{line_paint_of}
use Rattle.regex_lines.specs.Prefix.{text_of}
use Rattle.regex_lines.specs.Reply.{run_of}
use Rattle.regex_lines.proofs.MatchLemmas.{SoFar}
use Rattle.regex_lines.proofs.matches.write_text.Given as goal

abbrev pub invariant-loop-found : goal.invariant-loop-found
invariant-loop-found g l =
    SoFar l.fn.writer.searcher.now.regex.now l.fn.writer.show.shown (line_paint_of l.fn.writer.show.paint) (text_of l.fn.writer.prefix) (run_of l.fn.run)
    (g.W.Write.contents l.fn.out) l.fn.written.any l.found-iterator l.written.any l.written.prefix.items (g.W.Write.contents l.out)
