-- The remaining calls, further up, complete the calls on the whole spine.
use Rattle.std.proofs.Common.{◌≤◌}
use Rattle.regress_tree.specs.Tree.{tree}
use Rattle.regress_tree.specs.Visits.{Calls}
use Rattle.regress_tree.specs.Climbs.{Climbed}
use Rattle.regress_tree.proofs.ir.visit.+climb.Given as goal

abbrev pub decreases-climb : goal.decreases-climb
decreases-climb g l = l.nesting

abbrev pub invariant-loop-upper : goal.invariant-loop-upper
invariant-loop-upper g l =
    let Call = Calls (goal.F-step g) l.walk.unicode in
    record {
      callable : goal.F-IsAlwaysCallable g l.func;
      within : l.upper ≤ l.nesting;
      climbed : (last : _) → Climbed Call l.upper l.walk.depth l.walk.in_lookbehind (tree l.n) l.func last →
          Climbed Call l.nesting l.walk.depth l.walk.in_lookbehind (tree l.n) l.initial.func last;
    }

abbrev pub decreases-loop-upper : goal.decreases-loop-upper
decreases-loop-upper g l = l.upper
