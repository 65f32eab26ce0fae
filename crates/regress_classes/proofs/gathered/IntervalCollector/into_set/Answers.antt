-- The intervals after the set are added to it, one by one or all at once.
use Rattle.std.proofs.Common.{◌||◌, List, ap, subst, ◌∙◌}
use Rattle.regress_base.specs.Intervals.{Bounds, is_member}
use Rattle.regress_classes.specs.ClassViews.{HasMembers}
use Rattle.regress_classes.proofs.IntervalCollectorLemmas.{set_and}
use Rattle.regress_classes.proofs.gathered.IntervalCollector.into_set.Goals as goal
use Rattle.regress_classes.proofs.gathered.IntervalCollector.into_set.Goals.{then-len-lt-SINGLE_INSERTION_LIMIT+in_ok-add_intervals, else-len-lt-SINGLE_INSERTION_LIMIT+in_ok-add_set}

pub returns : goal.returns
returns c =
    subst (λ (l : List Bounds). HasMembers l c.if-len-lt-SINGLE_INSERTION_LIMIT.set) c.self.view_is
    (set_and c.self.inside.set c.self.inside.list.items c.if-len-lt-SINGLE_INSERTION_LIMIT.set c.set_is_canonical.ensures (elim c.if-len-lt-SINGLE_INSERTION_LIMIT.branch [
      | then-len-lt-SINGLE_INSERTION_LIMIT+in_ok-add_intervals w ↦ rw w.set-is (λ n. w.in_ok-add_intervals.ensures n
          ∙ ap (λ (l : List Bounds). is_member c.self.inside.set n || is_member l n) w.deref.ensures.value)
      | else-len-lt-SINGLE_INSERTION_LIMIT+in_ok-add_set w ↦ rw w.set-is (λ n. w.in_ok-add_set.ensures.members n
          ∙ ap (λ b. is_member c.self.inside.set n || b) (w.set_of_unordered-else-len-lt-SINGLE_INSERTION_LIMIT.ensures.each n))
    ]))
