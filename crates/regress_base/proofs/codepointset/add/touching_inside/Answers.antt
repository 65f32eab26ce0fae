use Rattle.std.proofs.Common.{arith, rules}
use Rattle.std.proofs.lemmas.Fn.{always_returns_same}
use Rattle.regress_base.proofs.AddLemmas.{compare_touching, merge_positions_rise, touching-from_equal_range, touching-before_all, touching-before_last}
use Rattle.regress_base.proofs.codepointset.add.touching_inside.Goals as goal

pub returns : goal.returns
unfolding compare_touching
returns c =
    let computes = always_returns_same _ _ _ (λ a r f' k. search rules) in
    touching-from_equal_range c.args.ivs.now c.args.new_iv _ _
    (c.equal_range_by.ensures.equal (compare_touching c.args.new_iv) computes
    (merge_positions_rise c.args.new_iv c.args.ivs.now
    (record { ordered = c.first-first.ensures.ordered; in_range = c.first-first.ensures.in_range }) c.requires))

pub returns-then-after-first : goal.returns-then-after-first
returns-then-after-first c =
    touching-before_all c.args.ivs.now c.args.new_iv c.index-ivs-0.result c.requires c.if-len-gt0.true c.index-ivs-0.is
    (omega (arith, c.last-after.ensures.value, c.first.ensures.value, c.if-after-first.true))

pub returns-then-after-first-2 : goal.returns-then-after-first-2
returns-then-after-first-2 c =
    touching-before_last c.args.ivs.now c.args.new_iv c.index-ivs-len.result c.index-ivs-len-then-last-first.result c.requires c.if-len-gt1.true
    c.index-ivs-len.is c.index-ivs-len-then-last-first.is
    (omega (arith, c.last.ensures.value, c.first-first.ensures.value, c.if-last-first.true))
    (omega (arith, c.last-after.ensures.value, c.first-then-last-first.ensures.value, c.if-after-first-2.true))
