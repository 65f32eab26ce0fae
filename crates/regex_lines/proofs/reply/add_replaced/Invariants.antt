-- What was added, and the texts that are left with their matches replaced, are together what is wanted.
use Rattle.std.proofs.Common.{drop, map}
use Rattle.regex_lines.specs.Reply.{run_of}
use Rattle.regex_lines.proofs.ReplyLemmas.{Replacing}
use Rattle.regex_lines.proofs.reply.add_replaced.Given as goal

abbrev pub invariant-loop-run : goal.invariant-loop-run
invariant-loop-run l =
    Replacing l.fn.searcher.regex.now l.fn.line.bytes.now l.fn.replacement.template.now l.fn.to.items l.fn.replacement.limit
    (map run_of l.fn.line.texts.now) l.limit l.from (drop l.run-index l.fn.line.texts.now)
    l.to.items
