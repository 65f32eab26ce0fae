-- The members of the class escape are closed and then complemented.
use Rattle.std.proofs.lemmas.Result.{IfOk-weaker}
use Rattle.regress_classes.specs.ClassProductions.{members_of}
use Rattle.regress_classes.proofs.class_sets.operand.class_value.Goals as goal

pub returns : goal.returns
returns c =
    IfOk-weaker c.point_value.result _ _ (λ held is. is (members_of c.args.kind) c.in_ok-class_escape_set.ensures) c.point_value.ensures
