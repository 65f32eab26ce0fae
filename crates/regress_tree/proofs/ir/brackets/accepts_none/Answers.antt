use Rattle.std.proofs.Common.{subst}
use Rattle.regress_base.specs.Intervals.{IsCanonical}
use Rattle.regress_tree.proofs.lemmas.Accepting.{accepts_none-is}
use Rattle.regress_tree.proofs.ir.brackets.accepts_none.Goals as goal

pub returns-clause-value : goal.returns-clause-value
returns-clause-value c =
    accepts_none-is c.is_empty.result c.args.contents.now.invert c.args.contents.now.cps
    (subst IsCanonical c.intervals-intervals.ensures.value c.intervals-intervals.ensures.canonical) c.is_empty.ensures
