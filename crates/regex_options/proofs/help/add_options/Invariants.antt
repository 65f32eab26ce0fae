use Rattle.std.proofs.Common.{◌≡◌, ◌++◌, drop}
use Rattle.std.specs.Prelude.{string_bytes}
use Rattle.regex_options.specs.Table.{option_lines}
use Rattle.regex_options.proofs.help.add_options.Given as goal

-- what is added so far, with the lines of the remaining options, is what was there with all lines
abbrev pub invariant-loop-option : goal.invariant-loop-option
invariant-loop-option l =
    string_bytes l.to ++ option_lines l.fn.command (drop l.option-index l.options) ≡ string_bytes l.fn.to ++ option_lines l.fn.command l.options
