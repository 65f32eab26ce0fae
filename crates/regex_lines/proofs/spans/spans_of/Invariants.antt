-- the texts so far
use Rattle.std.proofs.Common.{◌≡◌, flat_map, map, take}
use Rattle.regex_lines.specs.Reply.{matches_of, spans_in}
use Rattle.regex_lines.proofs.spans.spans_of.Given as goal

abbrev pub invariant-loop-text : goal.invariant-loop-text
invariant-loop-text l = l.spans.items ≡ flat_map spans_in (map matches_of (take l.text-index l.found))
