use Rattle.std.proofs.Common.{sym, rules}
use Rattle.regress_base.proofs.AddLemmas.{touching-after_all, touching-in_last}
use Rattle.regress_base.proofs.codepointset.add.touching.Goals as goal

pub returns-in-Some-clause-range : goal.returns-in-Some-clause-range
returns-in-Some-clause-range c =
    touching-after_all c.args.ivs.now c.args.new_iv c.in-Some.last.now c.requires (sym c.in-Some.ensures.value) (search rules)

pub returns-in-Some-2-clause-range : goal.returns-in-Some-2-clause-range
returns-in-Some-2-clause-range c =
    touching-in_last c.args.ivs.now c.args.new_iv c.in-Some.last.now c.requires c.first-first.ensures.ordered
    (sym c.in-Some.ensures.value) (search rules) (search rules)
