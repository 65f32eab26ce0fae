-- None of the parts so far is this anchor.
use Rattle.std.proofs.Common.{◌≡◌, length}
use Rattle.regress_tree.specs.Tree.{trees}
use Rattle.regress_warnings.specs.Alternatives.{some_part_is_anchor}
use Rattle.regress_warnings.proofs.alternatives.some_part_is_anchor.Given as goal

abbrev pub invariant-loop-rest : goal.invariant-loop-rest
invariant-loop-rest l = some_part_is_anchor l.fn.kind (trees l.fn.parts) ≡ some_part_is_anchor l.fn.kind (trees l.rest)

abbrev pub decreases-loop-rest : goal.decreases-loop-rest
decreases-loop-rest l = length l.rest
