use Rattle.std.proofs.Common.{◌≡◌, ◌++◌, drop}
use Rattle.std.specs.Prelude.{string_bytes}
use Rattle.regex_options.specs.Table.{summaries}
use Rattle.regex_options.proofs.help.add_summaries.Given as goal

-- what is added so far, with the remaining summaries, is what was there with all summaries
abbrev pub invariant-loop-entry : goal.invariant-loop-entry
invariant-loop-entry l = string_bytes l.to ++ summaries (drop l.entry-index l.commands) ≡ string_bytes l.fn.to ++ summaries l.commands
