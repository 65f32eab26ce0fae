-- What is said of the remaining parts completes what was said.
use Rattle.std.proofs.Common.{◌≡◌, ◌++◌, drop, map}
use Rattle.regress_spans.specs.Remarks.{said_by}
use Rattle.regress_differences.specs.Kinds.{said_of}
use Rattle.regress_differences.specs.Views.{part_at}
use Rattle.regress_differences.proofs.pattern.remarks_in.Given as goal

abbrev pub invariant-loop-part : goal.invariant-loop-part
invariant-loop-part l =
    said_by l.found.items ++ map (said_of l.flags l.pattern) (map part_at (drop l.part-index l.parts))
    ≡ map (said_of l.flags l.pattern) (map part_at l.parts)
