-- the texts so far, with the matches in them
use Rattle.std.proofs.Common.{map, take}
use Rattle.regex_lines.specs.Reply.{run_of}
use Rattle.regex_lines.proofs.FoundLemmas.{SoFar}
use Rattle.regex_lines.proofs.reply.search_texts.Given as goal

abbrev pub invariant-loop-run : goal.invariant-loop-run
invariant-loop-run l = SoFar l.searcher.regex.now (map run_of (take l.run-index l.texts)) l.found.items
