-- The contents of the operand are closed.
use Rattle.std.proofs.lemmas.Result.{IfOk-weaker}
use Rattle.regress_classes.specs.ClassSets.{value_of}
use Rattle.regress_classes.proofs.class_sets.operand.Operand.into_closed_value.Goals as goal

pub returns : goal.returns
returns c =
    IfOk-weaker c.into_closed.result _ _ (λ held closes operand is. closes (value_of operand) (c.in_ok-into_value.ensures operand is)) c.into_closed.ensures
