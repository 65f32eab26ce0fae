use Rattle.std.proofs.Common.{◌≡◌, false, drop}
use Rattle.regex_command.specs.Joined.{refers}
use Rattle.regex_command.proofs.checking.reference_in.Given as goal

-- what is left refers to a group, after a backslash or not, exactly if all does
abbrev pub invariant-loop-position : goal.invariant-loop-position
invariant-loop-position l = refers l.escaped (drop l.position l.points) ≡ refers false l.points
