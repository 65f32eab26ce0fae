-- the ranges so far
use Rattle.std.proofs.Common.{◌≡◌, map, take}
use Rattle.regress.specs.Compiled.{match_of}
use Rattle.regex_command.specs.Patterns.{range_of}
use Rattle.regex_command.proofs.explaining.ranges_of.Given as goal

abbrev pub invariant-loop-found : goal.invariant-loop-found
invariant-loop-found l = l.ranges.items ≡ map range_of (map match_of (take l.found-index l.matches))
