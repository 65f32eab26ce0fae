use Rattle.std.proofs.Common.{arith, ap, ◌≡◌, ◌-◌}
use Rattle.regress_tree.specs.Tree.{tree}
use Rattle.regress_tree.specs.Spine.{spine_length}
use Rattle.regress_tree.proofs.lemmas.Visits.{further-inside}
use Rattle.regress_tree.proofs.ir.visit_mut.climb.Goals as goal

pub loop-nesting-preserved : goal.loop-nesting-preserved
loop-nesting-preserved g c =
    let l = c.loop-nesting in
    let so_far = l.invariant in
    let shifted = c.loop-nesting-test.ensures in
    let here = c.inside.ensures in
    let nesting : l.nesting - 1 ≡ spine_length (tree c.rotate_right_spine.new.from) = omega (arith, so_far.nesting, ap spine_length shifted.was) in
    let depth = further-inside _ _ c.args.walk.now.depth _ nesting here.depth here.same in
    let called = rw (shifted.is, depth, here.direction, here.unicode) at c.call.ensures.called in
    record {
      callable = c.call.ensures.callable;
      nesting = nesting;
      climbed = λ last b rest. so_far.climbed last b (rw shifted.was (c.call.new.func, tree c.call.new.n, c.call.result, called, rest));
    }
