-- The interval is the last one in the list after the set.
use Rattle.std.proofs.Common.{◌||◌, ◌∙◌, List, ap}
use Rattle.regress_base.specs.Intervals.{Bounds, is_member, is_within}
use Rattle.regress_classes.proofs.IntervalCollectorLemmas.{interval_appended}
use Rattle.regress_classes.proofs.gathered.IntervalCollector.add.Goals as goal

pub returns : goal.returns
returns c = λ n.
    interval_appended c.self.inside.set c.self.inside.list.items c.push.new.self.items c.args.interval n c.in_ok-push.ensures.items
    ∙ ap (λ (l : List Bounds). is_member l n || is_within c.args.interval n) c.self.view_is
