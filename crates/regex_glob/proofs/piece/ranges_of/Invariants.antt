use Rattle.std.proofs.Common.{◌≡◌, ◌++◌, length}
use Rattle.regex_glob.specs.Glob.{ranges_of}
use Rattle.regex_glob.proofs.piece.ranges_of.Given as goal

-- the ranges so far, and those of the rest
abbrev pub invariant-loop-rest : goal.invariant-loop-rest
invariant-loop-rest l = l.ranges.items ++ ranges_of l.rest ≡ ranges_of l.members

abbrev pub decreases-loop-rest : goal.decreases-loop-rest
decreases-loop-rest l = length l.rest
