-- The remaining calls complete those of the whole spine.
use Rattle.std.proofs.Common.{◌≡◌}
use Rattle.regress_tree.specs.Tree.{tree}
use Rattle.regress_tree.specs.Spine.{spine_length}
use Rattle.regress_tree.specs.Visits.{CallsMut}
use Rattle.regress_tree.specs.Climbs.{ClimbedMut}
use Rattle.regress_tree.proofs.ir.visit_mut.climb.Given as goal

abbrev pub invariant-loop-nesting : goal.invariant-loop-nesting
invariant-loop-nesting g l =
    let Call = CallsMut (goal.F-step g) l.walk.unicode in
    record {
      callable : goal.F-IsAlwaysCallable g l.func;
      nesting : l.nesting ≡ spine_length (tree l.above);
      climbed : (last : _) (b : _) →
          ClimbedMut Call (tree l.above) l.walk.depth l.walk.in_lookbehind (tree l.n) last l.func b →
          ClimbedMut Call (tree l.initial.above) l.walk.depth l.walk.in_lookbehind (tree l.initial.n) last l.initial.func b;
    }

abbrev pub decreases-loop-nesting : goal.decreases-loop-nesting
decreases-loop-nesting g l = spine_length (tree l.above)
