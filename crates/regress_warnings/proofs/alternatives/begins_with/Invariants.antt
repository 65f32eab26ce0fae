-- The literals so far are those at the start of the parts.
use Rattle.std.proofs.Common.{◌≡◌, length}
use Rattle.regress_tree.specs.Tree.{trees}
use Rattle.regress_warnings.specs.Alternatives.{begins_with}
use Rattle.regress_warnings.proofs.alternatives.begins_with.Given as goal

abbrev pub invariant-loop-literals : goal.invariant-loop-literals
invariant-loop-literals l = begins_with (trees l.fn.literals) (trees l.fn.parts) ≡ begins_with (trees l.literals) (trees l.parts)

abbrev pub decreases-loop-literals : goal.decreases-loop-literals
decreases-loop-literals l = length l.literals
