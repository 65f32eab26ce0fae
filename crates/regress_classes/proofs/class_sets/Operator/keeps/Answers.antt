use Rattle.std.proofs.Common.{refl}
use Rattle.regress_classes.proofs.class_sets.Operator.keeps.Goals as goal

pub returns-in-Intersection : goal.returns-in-Intersection
returns-in-Intersection c = rw c.in-Intersection.is refl

pub returns-in-Subtraction : goal.returns-in-Subtraction
returns-in-Subtraction c = rw c.in-Subtraction.is refl
