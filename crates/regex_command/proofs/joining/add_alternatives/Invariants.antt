use Rattle.std.proofs.Common.{◌≡◌, ◌++◌, codes, drop, flat_map, map}
use Rattle.std.specs.Prelude.{string_bytes}
use Rattle.regex_command.specs.Joined.{part}
use Rattle.regex_command.proofs.joining.add_alternatives.Given as goal

-- what is added so far, with the remaining patterns, is what was there with all patterns
abbrev pub invariant-loop-pattern : goal.invariant-loop-pattern
invariant-loop-pattern l =
    string_bytes l.to ++ flat_map (λ other. codes "|" ++ other) (map (part l.fn.fixed) (map string_bytes (drop l.pattern-index l.patterns)))
    ≡ string_bytes l.fn.to ++ flat_map (λ other. codes "|" ++ other) (map (part l.fn.fixed) (map string_bytes l.patterns))
