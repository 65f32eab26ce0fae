-- the texts so far
use Rattle.std.proofs.Common.{◌≡◌, flat_map, map, take}
use Rattle.regress.specs.Compiled.{groups_of}
use Rattle.regex_lines.specs.Reply.{matches_json, matches_of}
use Rattle.regex_lines.proofs.json.all_json.Given as goal

abbrev pub invariant-loop-text : goal.invariant-loop-text
invariant-loop-text l = l.bytes.items ≡ flat_map (matches_json (groups_of l.regex) l.prefix) (map matches_of (take l.text-index l.found))
