-- the groups so far
use Rattle.std.proofs.Common.{map, string_bytes}
use Rattle.regress.specs.Compiled.{groups_of, match_of}
use Rattle.regress.specs.Groups.{names_left}
use Rattle.regex_lines.specs.Reply.{run_of}
use Rattle.regex_lines.proofs.JsonLemmas.{SoFar}
use Rattle.regex_lines.proofs.json.groups_json.Given as goal

abbrev pub invariant-loop-number : goal.invariant-loop-number
invariant-loop-number l = SoFar (run_of l.run) (match_of l.found) (map (λ c. c.name) (groups_of l.regex)) l.number (names_left l.names) (string_bytes l.json)
