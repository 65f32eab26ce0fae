-- the bytes before are digits and semicolons
use Rattle.std.proofs.Common.{◌≡◌, drop}
use Rattle.regex_options.specs.Colors.{are_parameters}
use Rattle.regex_options.proofs.colors.are_parameters.Given as goal

abbrev pub invariant-loop-byte : goal.invariant-loop-byte
invariant-loop-byte l = are_parameters (drop l.byte-index l.byte-items) ≡ are_parameters l.text
