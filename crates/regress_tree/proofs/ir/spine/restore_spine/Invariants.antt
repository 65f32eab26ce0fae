-- The whole tree is unchanged while the reversed spine gets shorter.
use Rattle.std.proofs.Common.{◌≡◌}
use Rattle.regress_tree.specs.Tree.{tree}
use Rattle.regress_tree.specs.Spine.{reattach, spine_length}
use Rattle.regress_tree.proofs.ir.spine.restore_spine.Given as goal

abbrev pub invariant-loop : goal.invariant-loop
invariant-loop l = reattach (tree l.above) (tree l.node) ≡ reattach (tree l.initial.above) (tree l.initial.node)

abbrev pub decreases-loop : goal.decreases-loop
decreases-loop l = spine_length (tree l.above)
