-- The pattern matches in none of the texts so far.
use Rattle.std.proofs.Common.{All, take, map}
use Rattle.regex_lines.specs.Reply.{run_of}
use Rattle.regress.specs.Compiled.{outcomes_of}
use Rattle.regress.specs.Searched.{MatchesSomewhere}
use Rattle.regex_lines.proofs.reply.match_in.Given as goal

abbrev pub invariant-loop-run : goal.invariant-loop-run
invariant-loop-run l = All (λ run. ¬ (MatchesSomewhere run.text (outcomes_of l.searcher.regex.now run.text))) (map run_of (take l.run-index l.texts))
