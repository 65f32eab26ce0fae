use Rattle.regress_classes.proofs.class_sets.value.Value.of_set.Goals as goal

pub returns : goal.returns
returns c = λ members h. record { members = h; others = c.new.ensures members }
