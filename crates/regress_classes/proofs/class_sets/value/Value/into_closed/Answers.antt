-- The code points are closed, and the strings are folded.
use Rattle.regress_classes.proofs.class_sets.value.Value.into_closed.Goals as goal

pub returns : goal.returns
returns c = λ value is. record {
  members = c.in_ok-close.ensures value.members is.members;
  others = c.in_ok-into_folded.ensures value is.others;
}
