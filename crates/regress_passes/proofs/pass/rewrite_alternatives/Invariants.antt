-- The effect of rewriting the alternatives so far on the whole tree.
use Rattle.std.proofs.Common.{◌≡◌, true, Ok}
use Rattle.regress_tree.specs.Tree.{Tree, tree}
use Rattle.regress_tree.specs.Climbs.{ClimbedMut}
use Rattle.regress_passes.specs.Passes.{Applied}
use Rattle.regress_tree.specs.Walk.{direction_of}
use Rattle.regress_tree.specs.Shapes.{LacksShape}
use Rattle.regress_tree.specs.Spine.{reattach, spine_length, LeftsLackShape}
use Rattle.regress_passes.proofs.SpineLemmas.{UpSwept}
use Rattle.regress_passes.proofs.pass.rewrite_alternatives.Given as goal

abbrev pub invariant-loop-nesting : goal.invariant-loop-nesting
invariant-loop-nesting g l =
    let shape = g.R.Rewrite.removes in
    let start = LacksShape shape (tree l.initial.node) × LeftsLackShape shape (tree l.initial.above) in
    let old = reattach (tree l.initial.above) (tree l.initial.node) in
    record {
      nesting : l.nesting ≡ spine_length (tree l.above);
      climbed : (u : Tree) (b : _) →
          ClimbedMut (Applied g.R.Rewrite.step l.walk.unicode) (tree l.above) l.walk.depth l.walk.in_lookbehind (tree l.node) u (l.pass, true) b →
          ClimbedMut (Applied g.R.Rewrite.step l.walk.unicode) (tree l.initial.above) l.walk.depth l.walk.in_lookbehind (tree l.initial.node) u
          (l.initial.pass, true) b;
      swept : UpSwept g.R.Rewrite.is_exact (direction_of l.walk) shape old start (tree l.above) (tree l.node) (Ok l.changed);
    }

abbrev pub decreases-loop-nesting : goal.decreases-loop-nesting
decreases-loop-nesting g l = spine_length (tree l.above)
