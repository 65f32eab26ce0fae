-- Each interval adds what it is mapped to. After the range nothing is mapped.
use Rattle.std.proofs.Common.{◌||◌, ◌∙◌, ap, arith}
use Rattle.regress_base.specs.Intervals.{is_member, is_within}
use Rattle.regress_unicode.proofs.ShiftLemmas.{intervals_none, intervals_more, intervals_all}
use Rattle.regress_unicode.proofs.ClosingLemmas.{lands_before, widened, member_at}
use Rattle.regress_unicode.proofs.closure.push_moved.Goals as goal

pub loop-interval-init : goal.loop-interval-init
loop-interval-init c x = intervals_none c.args.shift.now x _

pub loop-interval-preserved : goal.loop-interval-preserved
loop-interval-preserved c x =
    intervals_more c.args.shift.now _ c.loop-interval.interval-index x c.interval-item.result _ _ _
    c.loop-interval-test.true c.interval-item.is
    (c.loop-interval.invariant x)
    (widened (is_within c.interval-item.result x) (is_member c.args.intervals.now x) _ _ _
    (member_at c.args.intervals.now c.loop-interval.interval-index x c.interval-item.result c.loop-interval-test.true c.interval-item.is)
    (c.in_ok-push_overlap.ensures x))

pub returns-then-shift-first : goal.returns-then-shift-first
returns-then-shift-first c x =
    c.loop-interval.invariant x
    ∙ ap (λ b. (is_member c.args.intervals.now x || is_member c.args.found.now.items x) || b)
    (lands_before c.args.shift.now c.args.intervals.now c.loop-interval.interval-index x c.interval-item.result c.requires.canonical
    c.loop-interval-test.true c.interval-item.is (omega (arith, c.first.ensures.value)))

pub returns : goal.returns
returns c x =
    intervals_all c.args.shift.now _ c.loop-interval.interval-index x _ _ c.loop-interval-test.false
    (c.loop-interval.invariant x)
