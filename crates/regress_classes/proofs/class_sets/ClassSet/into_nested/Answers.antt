use Rattle.std.proofs.Common.{refl}
use Rattle.regress_classes.proofs.ClassSetLemmas.{nested_value, members_complement, members_same}
use Rattle.regress_classes.proofs.class_sets.ClassSet.into_nested.Goals as goal
use Rattle.regress_classes.proofs.class_sets.ClassSet.into_nested.Goals.{then-negated+in_ok-value, else-negated}

pub returns : goal.returns
returns c = λ read is.
    let old = c.args.self.value in
    elim c.if-negated.branch [
      | then-negated+in_ok-value w ↦
          rw w.value-is
          (nested_value read c.args.self.negated old w.in_ok-value.field-0 is
          (rw w.if-negated.true (members_complement old.set w.in_ok-value.field-0 w.in_ok-value.ensures.members w.in_ok-value.ensures.canonical)))
      | else-negated w ↦
          rw w.value-is
          (nested_value read c.args.self.negated old old.set is
          (rw w.if-negated.false (members_same old.set old.set refl is.1.members.canonical)))
    ]
