-- What the shift maps is the same for all intervals as for those that are left.
use Rattle.std.proofs.Common.{◌||◌, ◌∙◌, ap}
use Rattle.regress_base.specs.Intervals.{is_member}
use Rattle.regress_unicode.specs.Shifts.{maps_to}
use Rattle.regress_unicode.proofs.ShiftLemmas.{maps_to-same}
use Rattle.regress_unicode.proofs.ClosingLemmas.{widened}
use Rattle.regress_unicode.proofs.closure.push_targets.Goals as goal

pub returns-in_ok-push_moved : goal.returns-in_ok-push_moved
returns-in_ok-push_moved c x =
    let member = is_member c.args.intervals.now in
    let left = is_member c.args.rest.now in
    widened (left x) (member x) (is_member c.args.found.now.items x) _ (maps_to c.args.shift.now left x)
    (c.requires.rest_within x) (c.in_ok-push_moved.ensures x)
    ∙ ap (λ b. (member x || is_member c.args.found.now.items x) || b)
    (maps_to-same c.args.shift.now left member x (λ y from to. c.requires.rest_members y from))
