use Rattle.std.proofs.Common.{All, map, take}
use Rattle.std.specs.Prelude.{chars, string_bytes}
use Rattle.regex_lines.specs.Ending.{setting_in}
use Rattle.regex_command.specs.Patterns.{IsAcceptedPattern}
use Rattle.regex_command.proofs.compiling.compile_each.Given as goal

-- each pattern so far is accepted
abbrev pub invariant-loop-pattern : goal.invariant-loop-pattern
invariant-loop-pattern l =
    All (λ pattern. IsAcceptedPattern l.fn.dialect (setting_in l.fn.dialect l.fn.flags) (chars pattern)) (map string_bytes (take l.pattern-index l.patterns))
