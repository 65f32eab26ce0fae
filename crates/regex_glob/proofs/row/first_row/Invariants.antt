use Rattle.std.proofs.Common.{◌≡◌}
use Rattle.regex_glob.specs.Row.{first_row}
use Rattle.regex_glob.proofs.row.first_row.Given as goal

abbrev pub invariant-loop : goal.invariant-loop
invariant-loop l = l.row.items ≡ first_row l.counter
