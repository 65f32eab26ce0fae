use Rattle.std.proofs.Common.{◌≡◌, drop}
use Rattle.std.specs.Prelude.{find}
use Rattle.regex_options.specs.Table.{has_long}
use Rattle.regex_options.proofs.reading.find_long.Given as goal

-- none of the options before is it
abbrev pub invariant-loop-option : goal.invariant-loop-option
invariant-loop-option l = find (has_long l.name) (drop l.option-index l.options) ≡ find (has_long l.name) l.options
