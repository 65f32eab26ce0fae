-- The set as it is, where there was none before.
use Rattle.std.proofs.Common.{ap, ◌||◌, List, ◌∙◌}
use Rattle.regress_base.specs.Intervals.{Bounds, is_member}
use Rattle.regress_classes.proofs.IntervalCollectorLemmas.{set_taken}
use Rattle.regress_classes.proofs.gathered.IntervalCollector.add_set.Goals as goal

pub returns-then-is_empty : goal.returns-then-is_empty
returns-then-is_empty c = λ n.
    set_taken c.self.inside.set c.self.inside.list.items c.args.set n (c.is_empty.ensures.intervals.0 c.if-is_empty.true)
    ∙ ap (λ (l : List Bounds). is_member l n || is_member c.args.set n) c.self.view_is
