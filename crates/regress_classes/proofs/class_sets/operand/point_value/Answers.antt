-- The members are closed and then complemented.
use Rattle.regress_classes.proofs.class_sets.operand.point_value.Goals as goal

pub returns : goal.returns
returns c = λ members has. c.of_set.ensures _ (c.in_ok-set.ensures _ (c.in_ok-closed.ensures members has))
