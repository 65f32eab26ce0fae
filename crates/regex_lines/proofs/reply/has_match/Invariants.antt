-- There is no match in the texts so far.
use Rattle.std.proofs.Common.{◌<◌, All, length, map, take}
use Rattle.regex_lines.specs.Reply.{matches_of}
use Rattle.regex_lines.proofs.reply.has_match.Given as goal

abbrev pub invariant-loop-text : goal.invariant-loop-text
invariant-loop-text l = All (λ f. ¬ (0 < length f.matches)) (map matches_of (take l.text-index l.found))
