use Rattle.std.proofs.Common.{All, map}
use Rattle.regex_lines.specs.Walk.{IsEntry, filter}
use Rattle.regex_lines.proofs.walk.entries_in.Given as goal

abbrev pub invariant-loop-name : goal.invariant-loop-name
invariant-loop-name g l = All (IsEntry (map filter l.filters) l.directory) l.entries.items
