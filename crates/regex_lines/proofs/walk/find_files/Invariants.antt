-- What is found for the names so far.
use Rattle.std.proofs.Common.{map}
use Rattle.std.specs.Prelude.{string_bytes}
use Rattle.regex_lines.specs.Walk.{filter}
use Rattle.regex_lines.specs.Unread.{unread_path}
use Rattle.regex_lines.proofs.WalkLemmas.{SoFar}
use Rattle.regex_lines.proofs.walk.find_files.Given as goal

abbrev pub invariant-loop-name : goal.invariant-loop-name
invariant-loop-name g l =
    SoFar l.fn.list.recursive (map filter l.filters.items) l.fn.list.names.now l.name-index (map string_bytes l.found.files.items) l.found.several
    (map unread_path l.found.unread.items)
