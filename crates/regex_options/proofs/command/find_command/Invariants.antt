use Rattle.std.proofs.Common.{◌≡◌, drop}
use Rattle.std.specs.Prelude.{find}
use Rattle.regex_options.specs.Table.{is_named}
use Rattle.regex_options.proofs.command.find_command.Given as goal

-- none of the commands before is it
abbrev pub invariant-loop-entry : goal.invariant-loop-entry
invariant-loop-entry l = find (is_named l.name) (drop l.entry-index l.commands) ≡ find (is_named l.name) l.commands
