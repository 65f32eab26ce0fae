-- One more alternative.
use Rattle.std.proofs.Common.{true, false, refl}
use Rattle.regress_tree.specs.Tree.{tree}
use Rattle.regress_tree.proofs.lemmas.Visits.{further-inside}
use Rattle.regress_passes.proofs.PassesLemmas.{way_stays}
use Rattle.regress_passes.proofs.SweepLemmas.{Traversed-error, Traversed-walk}
use Rattle.regress_passes.proofs.SpineLemmas.{IsPart-up, nesting_up, up_next}
use Rattle.regress_passes.proofs.pass.rewrite_alternatives.Goals as goal

pub rewrite-requires : goal.rewrite-requires
rewrite-requires g c =
    let l = c.loop-nesting in
    record {
      part = IsPart-up _ _ (tree l.above) (tree l.node) _ _ c.loop-nesting-test.ensures l.invariant.swept.keeps c.requires.part;
      fresh = c.inside.ensures.children;
    }

pub loop-nesting-preserved : goal.loop-nesting-preserved
loop-nesting-preserved g c =
    let l = c.loop-nesting in
    let shifted = c.loop-nesting-test.ensures in
    let here = Traversed-walk _ c.args.walk.now c.inside.result c.inside.ensures.direction c.in-Ok.ensures.swept in
    let nesting = nesting_up _ (tree l.above) (tree l.node) _ _ shifted l.invariant.nesting in
    let depth = further-inside _ _ c.args.walk.now.depth _ nesting c.inside.ensures.depth c.inside.ensures.same in
    let called = rw (shifted.is, depth, c.inside.ensures.direction, c.inside.ensures.unicode) at (c.in-Ok.ensures.applied false) in
    record {
      climbed = λ last b rest. l.invariant.climbed last b
          (rw shifted.was ((c.rewrite.new.pass, true), tree c.rewrite.new.node, false, called, rest));
      nesting = nesting_up _ (tree l.above) (tree l.node) _ _ shifted l.invariant.nesting;
      swept = up_next _ _ g.R.Rewrite.removes _ _ l.changed _ (tree l.above) (tree l.node) _ _ _ shifted l.invariant.swept here;
    }

pub returns-in-Err-clause-climbed : goal.returns-in-Err-clause-climbed
returns-in-Err-clause-climbed g c =
    let l = c.loop-nesting in
    let shifted = c.loop-nesting-test.ensures in
    let nesting = nesting_up _ (tree l.above) (tree l.node) _ _ shifted l.invariant.nesting in
    let depth = further-inside _ _ c.args.walk.now.depth _ nesting c.inside.ensures.depth c.inside.ensures.same in
    let called = rw (shifted.is, depth, c.inside.ensures.direction, c.inside.ensures.unicode) at (c.in-Err.ensures.applied false) in
    rw c.restore_spine.ensures
    (l.invariant.climbed _ _ (rw shifted.was (
      (c.rewrite.new.pass, false),
      tree c.rewrite.new.node,
      false,
      called,
      way_stays g.R.Rewrite.step c.args.walk.now.unicode (tree c.rotate_right_spine.new.from) (tree c.rewrite.new.node) c.args.walk.now.depth
          c.args.walk.now.in_lookbehind c.rewrite.new.pass,
    )))

pub returns-in-Err-clause-swept : goal.returns-in-Err-clause-swept
returns-in-Err-clause-swept g c =
    let l = c.loop-nesting in
    let here = Traversed-walk _ c.args.walk.now c.inside.result c.inside.ensures.direction c.in-Err.ensures.swept in
    Traversed-error _ _ _ refl c.restore_spine.ensures
    (up_next _ _ g.R.Rewrite.removes _ _ l.changed _ (tree l.above) (tree l.node) _ _ _ c.loop-nesting-test.ensures l.invariant.swept here)
