use Rattle.std.proofs.Common.{[], List, ap}
use Rattle.regress_base.specs.Intervals.{Bounds, is_member}
use Rattle.regress_classes.proofs.class_sets.union.Union.with_room.Goals as goal

pub returns : goal.returns
returns c = record { members = λ n. ap (λ (l : List Bounds). is_member l n) c.in_ok-with_room.ensures; others = c.new.ensures [] }
