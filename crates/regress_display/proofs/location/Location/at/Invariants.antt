-- the line and the column after the characters so far
use Rattle.std.proofs.Common.{◌≡◌}
use Rattle.regress_display.specs.Fault.{line_after, column_after}
use Rattle.regress_display.proofs.location.Location.at.Given as goal

abbrev pub invariant-loop-c : goal.invariant-loop-c
invariant-loop-c l = (l.line ≡ line_after l.yielded) × (l.column ≡ column_after l.yielded)
