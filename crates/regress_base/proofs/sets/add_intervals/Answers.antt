-- Each iteration adds one interval.
use Rattle.std.proofs.Common.{◌||◌, ◌∙◌, ap, sym, take}
use Rattle.std.proofs.Math.Bool.{or-false}
use Rattle.regress_base.specs.Intervals.{is_member, is_within}
use Rattle.regress_base.proofs.lemmas.Sets.{is_member-nil, is_member-take_more, or_assoc}
use Rattle.regress_base.proofs.sets.add_intervals.Goals as goal

pub loop-interval-init : goal.loop-interval-init
loop-interval-init c n =
    sym (or-false (is_member c.args.set.now n)) ∙ ap (λ b. is_member c.args.set.now n || b) (sym (is_member-nil n))

pub loop-interval-preserved : goal.loop-interval-preserved
loop-interval-preserved c n =
    let old = is_member c.args.set.now n in
    let taken = is_member (take c.loop-interval.interval-index c.args.intervals.now) n in
    c.in_ok-add.ensures.members n
    ∙ ap (λ b. b || is_within c.interval-item.result n) (c.loop-interval.invariant n)
    ∙ sym (or_assoc old taken (is_within c.interval-item.result n))
    ∙ ap (λ iv. old || (taken || is_within iv n)) c.interval-item.is
    ∙ ap (λ b. old || b)
    (sym (is_member-take_more c.args.intervals.now c.loop-interval.interval-index n c.interval-item.result c.loop-interval-test.true))
