use Rattle.std.proofs.Common.{◌≡◌}
use Rattle.regress_tree.specs.Tree.{tree}
use Rattle.regress_tree.specs.Climbs.{down}
use Rattle.regress_tree.proofs.ir.visit.right_side.Given as goal

abbrev pub invariant-loop : goal.invariant-loop
invariant-loop l = tree l.below ≡ down l.counter (tree l.n)
