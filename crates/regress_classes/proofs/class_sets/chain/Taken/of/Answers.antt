use Rattle.regress_classes.proofs.ChainLemmas.{remainder_of_first}
use Rattle.regress_classes.proofs.class_sets.chain.Taken.of.Goals as goal

pub returns : goal.returns
returns c = λ first a b h k.
    remainder_of_first c.args.operator first a b c.args.operand _ c.new-points.result c.in_ok-dropped_points.field-0 h k c.new-points.ensures
    c.in_ok-dropped_points.ensures c.in_ok-add_set.ensures k.others
