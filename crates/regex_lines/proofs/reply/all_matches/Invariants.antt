-- the texts so far
use Rattle.std.proofs.Common.{◌≡◌, flat_map, map, take}
use Rattle.regex_lines.specs.Paint.{paint_of}
use Rattle.regex_lines.specs.Reply.{matches_shown, matches_of}
use Rattle.regex_lines.proofs.reply.all_matches.Given as goal

abbrev pub invariant-loop-text : goal.invariant-loop-text
invariant-loop-text l = l.bytes.items ≡ flat_map (matches_shown (paint_of l.paint) l.prefix) (map matches_of (take l.text-index l.found))
