-- the matches so far, with those in the remaining texts, are all matches
use Rattle.std.proofs.Common.{◌≡◌, ◌+◌, drop, map}
use Rattle.regex_lines.specs.Reply.{match_count, matches_of}
use Rattle.regex_lines.proofs.reply.match_count.Given as goal

abbrev pub invariant-loop-text : goal.invariant-loop-text
invariant-loop-text l = l.count + match_count (map matches_of (drop l.text-index l.found)) ≡ match_count (map matches_of l.found)
