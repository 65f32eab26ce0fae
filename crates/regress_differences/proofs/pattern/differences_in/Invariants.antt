-- What is reported of the remaining parts completes what is found.
use Rattle.std.proofs.Common.{◌≡◌, ◌++◌, drop, map}
use Rattle.regress_differences.specs.Reported.{difference_of}
use Rattle.regress_differences.specs.Views.{part_at}
use Rattle.regress_differences.proofs.pattern.differences_in.Given as goal

abbrev pub invariant-loop-part : goal.invariant-loop-part
invariant-loop-part l =
    l.found.items ++ map (difference_of l.flags l.pattern) (map part_at (drop l.part-index l.parts))
    ≡ map (difference_of l.flags l.pattern) (map part_at l.parts)
