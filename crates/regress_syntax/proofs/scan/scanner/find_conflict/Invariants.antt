-- The first conflict of the list is the one found so far or that of the remaining list.
use Rattle.std.proofs.Common.{◌≡◌, length}
use Rattle.regress_syntax.specs.Scanning.{first_conflict, greatest}
use Rattle.regress_syntax.proofs.scan.scanner.find_conflict.Given as goal

abbrev pub invariant-loop-group : goal.invariant-loop-group
invariant-loop-group l = first_conflict l.groups ≡ greatest l.first (first_conflict l.rest)

abbrev pub decreases-loop-group : goal.decreases-loop-group
decreases-loop-group l = length l.rest
