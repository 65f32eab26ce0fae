-- the matches so far
use Rattle.std.proofs.Common.{◌≡◌, ◌++◌}
use Rattle.regex_lines.specs.Paint.{paint_of}
use Rattle.regex_lines.proofs.ReplyLemmas.{shown_so_far}
use Rattle.regex_lines.proofs.reply.add_matches.Given as goal

abbrev pub invariant-loop-found : goal.invariant-loop-found
invariant-loop-found l = l.to.items ≡ l.fn.to.items ++ shown_so_far (paint_of l.paint) l.prefix l.text.run.text.now l.found-items l.found-index
