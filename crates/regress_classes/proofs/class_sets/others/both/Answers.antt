use Rattle.std.proofs.Common.{refl}
use Rattle.regress_classes.proofs.class_sets.others.both.Goals as goal

pub returns-then-has_empty : goal.returns-then-has_empty
returns-then-has_empty c = rw (c.in-Intersection.is, c.if-has_empty.true) refl

pub returns-else-has_empty : goal.returns-else-has_empty
returns-else-has_empty c = rw (c.in-Intersection.is, c.if-has_empty.false) refl
