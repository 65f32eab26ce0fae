use Rattle.std.proofs.Common.{All, map, take}
use Rattle.std.specs.Prelude.{string_bytes}
use Rattle.regex_command.specs.Joined.{IsClosed}
use Rattle.regex_command.proofs.checking.check_references.Given as goal

-- no pattern so far refers to a group
abbrev pub invariant-loop-pattern : goal.invariant-loop-pattern
invariant-loop-pattern l = All IsClosed (map string_bytes (take l.pattern-index l.patterns))
