-- The warnings so far, and those of the remaining nodes.
use Rattle.std.proofs.Common.{◌≡◌, ◌++◌, length}
use Rattle.std.specs.List.{zip}
use Rattle.regress_spans.specs.Children.{trees_at}
use Rattle.regress_warnings.specs.Warned.{warned_if_marked}
use Rattle.regress_warnings.proofs.impossible.add_marked.Given as goal

abbrev pub invariant-loop-marks : goal.invariant-loop-marks
invariant-loop-marks l =
    l.found.items ++ warned_if_marked l.marks (zip (trees_at l.nodes) l.spans)
    ≡ l.initial.found.items ++ warned_if_marked l.fn.marks (zip (trees_at l.fn.nodes) l.fn.spans)

abbrev pub decreases-loop-marks : goal.decreases-loop-marks
decreases-loop-marks l = length l.marks
