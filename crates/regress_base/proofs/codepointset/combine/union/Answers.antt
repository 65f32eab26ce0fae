-- Each iteration adds one interval of one list.
use Rattle.std.proofs.Common.{arith, rules}
use Rattle.std.proofs.lemmas.Grind.{common_steps}
use Rattle.regress_base.proofs.CombineLemmas.{union_left, union_right}
use Rattle.regress_base.proofs.codepointset.combine.union.Goals as goal

pub loop-i-preserved-then-first : goal.loop-i-preserved-then-first
loop-i-preserved-then-first c = record {
  left_in = search rules;
  right_in = c.loop-i.invariant.right_in;
  members = λ n. union_left c.args.left.now c.loop-i.i n c.index-left-i-then-first.result _ _ _ (search rules)
      c.index-left-i-then-first.is (c.in_ok-add.ensures.members n) (c.loop-i.invariant.members n);
}

pub loop-i-preserved : goal.loop-i-preserved
loop-i-preserved c = record {
  left_in = c.loop-i.invariant.left_in;
  right_in = grind (arith, common_steps);
  members = λ n. union_right c.args.right.now c.loop-i.j n c.index-right-j-else-first.result _ _ _ (grind (arith, common_steps))
      c.index-right-j-else-first.is (c.in_ok-add-2.ensures.members n) (c.loop-i.invariant.members n);
}
