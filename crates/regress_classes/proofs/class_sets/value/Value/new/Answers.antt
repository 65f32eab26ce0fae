use Rattle.std.proofs.Common.{[]}
use Rattle.regress_classes.proofs.ClassSetLemmas.{no_members}
use Rattle.regress_classes.proofs.class_sets.value.Value.new.Goals as goal

pub returns : goal.returns
returns c = c.of_set.ensures [] (no_members c.new.result c.new.ensures)
