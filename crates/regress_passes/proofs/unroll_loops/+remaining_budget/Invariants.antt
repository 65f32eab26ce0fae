use Rattle.std.proofs.Common.{◌≡◌, drop}
use Rattle.regress_tree.specs.Tree.{trees}
use Rattle.regress_passes.specs.Unrolled.{remaining_budget_of_parts}
use Rattle.regress_passes.proofs.unroll_loops.+remaining_budget.Given as goal

abbrev pub invariant-remaining_budget_of_parts-loop-part : goal.invariant-remaining_budget_of_parts-loop-part
invariant-remaining_budget_of_parts-loop-part l = remaining_budget_of_parts l.nesting l.left (trees (drop l.part-index l.parts)) ≡ remaining_budget_of_parts l.nesting l.budget
    (trees l.parts)
