-- the matches so far
use Rattle.std.proofs.Common.{◌≡◌, ◌++◌}
use Rattle.regex_lines.specs.Reply.{run_of}
use Rattle.regex_lines.proofs.JsonLemmas.{json_so_far}
use Rattle.regex_lines.proofs.json.add_json.Given as goal

abbrev pub invariant-loop-found : goal.invariant-loop-found
invariant-loop-found l = l.to.items ≡ l.fn.to.items ++ json_so_far l.regex l.prefix (run_of l.text.run) l.found-items l.found-index
