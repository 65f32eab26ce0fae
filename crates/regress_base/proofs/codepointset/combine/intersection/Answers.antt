-- Of two intervals, the one that ends first overlaps none of the remaining intervals on the other side.
use Rattle.std.proofs.Common.{inl, inr, arith, rules}
use Rattle.regress_base.proofs.CombineLemmas.{met_left, met_right, met_none, meet_done}
use Rattle.regress_base.proofs.codepointset.combine.intersection.Goals as goal
use Rattle.regress_base.proofs.codepointset.combine.intersection.Goals.{then-loop-i-test+else-j-right, else-loop-i-test}

pub loop-i-init : goal.loop-i-init
loop-i-init c = record {
  left_in = omega arith;
  right_in = omega arith;
  met = met_none c.args.left.now c.args.right.now _ c.in_ok-common.ensures.items;
}

pub loop-i-preserved-then-last : goal.loop-i-preserved-then-last
loop-i-preserved-then-last c = record {
  left_in = search rules;
  right_in = c.loop-i.invariant.right_in;
  met = met_left c.args.left.now c.args.right.now _ _ c.loop-i.i c.loop-i.j c.index-left-i.result c.index-right-j.result
      c.requires.left_canonical c.requires.right_canonical (search rules) (search rules) c.index-left-i.is c.index-right-j.is
      c.in_ok-push_overlap.ensures c.loop-i.invariant.met (search rules);
}

pub loop-i-preserved : goal.loop-i-preserved
loop-i-preserved c = record {
  left_in = c.loop-i.invariant.left_in;
  right_in = search rules;
  met = met_right c.args.left.now c.args.right.now _ _ c.loop-i.i c.loop-i.j c.index-left-i.result c.index-right-j.result
      c.requires.left_canonical c.requires.right_canonical (search rules) (search rules) c.index-left-i.is c.index-right-j.is
      c.in_ok-push_overlap.ensures c.loop-i.invariant.met (search rules);
}

pub returns-clause-members : goal.returns-clause-members
returns-clause-members c = λ n. meet_done c.args.left.now c.args.right.now c.loop-i.i c.loop-i.j n _ _
    (elim c.loop-i-test.branch [ then-loop-i-test+else-j-right w ↦ inr (omega arith) | else-loop-i-test w ↦ inl (omega arith) ])
    (c.loop-i.invariant.met.members n)

pub returns-clause-canonical : goal.returns-clause-canonical
returns-clause-canonical c = c.loop-i.invariant.met.canonical
