use Rattle.std.proofs.Common.{[], map, take}
use Rattle.std.specs.List.{FoldsTo}
use Rattle.std.specs.Prelude.{string_bytes}
use Rattle.regex_options.specs.Plain.{source}
use Rattle.regex_command.specs.Printed.{AreWith}
use Rattle.regex_command.proofs.pattern.read_all.Given as goal

-- the patterns of the sources so far
abbrev pub invariant-loop-from : goal.invariant-loop-from
invariant-loop-from g l = FoldsTo AreWith [] (map source (take l.from-index l.sources)) (map string_bytes l.patterns.items)
