use Rattle.std.proofs.Common.{arith}
use Rattle.regress_tree.specs.Tree.{tree}
use Rattle.regress_tree.specs.Visits.{Calls}
use Rattle.regress_tree.proofs.lemmas.Visits.{Climbed-one, Climbed-two}
use Rattle.regress_tree.proofs.ir.visit.+climb.Goals as goal

pub loop-upper-preserved : goal.loop-upper-preserved
loop-upper-preserved g t c =
    let l = c.loop-upper in
    let walk = c.args.walk.now in
    let Call = Calls (goal.F-step g) walk.unicode in
    let node = tree c.args.n.now in
    let here = c.inside.ensures in
    let lower = rw (here.depth, here.direction, here.unicode, c.right_side.ensures) at c.climb.ensures.climbed in
    record {
      callable = c.climb.ensures.callable;
      within = omega (arith, l.invariant.within);
      climbed = λ last rest.
          l.invariant.climbed last
          (Climbed-two Call l.upper walk.depth walk.in_lookbehind node _ _ last c.loop-upper-test.true lower rest);
    }

pub returns-then-upper-eq1-clause-climbed : goal.returns-then-upper-eq1-clause-climbed
returns-then-upper-eq1-clause-climbed g t c =
    let l = c.loop-upper in
    let walk = c.args.walk.now in
    let Call = Calls (goal.F-step g) walk.unicode in
    let node = tree c.args.n.now in
    l.invariant.climbed _ (Climbed-one Call l.upper walk.depth walk.in_lookbehind _ node _ _ c.if-upper-eq1.true c.call.ensures.called)
