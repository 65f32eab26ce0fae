-- The members so far, and those that remain.
use Rattle.std.proofs.Common.{◌≡◌, ◌++◌}
use Rattle.regress_warnings.specs.Classes.{members, members_by}
use Rattle.regress_warnings.proofs.members.members.Given as goal

abbrev pub invariant-loop-left : goal.invariant-loop-left
invariant-loop-left l = l.found.items ++ members_by l.left l.rest ≡ members l.fn.written

abbrev pub decreases-loop-left : goal.decreases-loop-left
decreases-loop-left l = l.left
