-- The interval is mapped as a whole, or its code points one by one.
use Rattle.std.proofs.Common.{◌≡◌, ◌+◌, ◌||◌, ◌==◌, min, max, sym, ap, ◌∙◌, arith}
use Rattle.regress_base.specs.Intervals.{is_member, is_within}
use Rattle.std.proofs.Math.Bool.{or-false}
use Rattle.regress_base.proofs.lemmas.Sets.{or_assoc}
use Rattle.regress_unicode.specs.Shifts.{maps_to}
use Rattle.regress_unicode.proofs.ShiftLemmas.{overlap_none, overlap_whole, between, lands_between_none, between_more, between_no_more, between_all}
use Rattle.regress_unicode.proofs.ClosingLemmas.{pushed, widened, source_in}
use Rattle.regress_unicode.proofs.closure.push_overlap.Goals as goal
use Rattle.regress_unicode.proofs.closure.push_overlap.Goals.{then-moves+in_ok-push_target, else-moves}

pub returns-then-last-first : goal.returns-then-last-first
returns-then-last-first c x =
    let first = c.max-first.ensures ∙ ap (max c.args.shift.now.first) c.first.ensures.value in
    let last = c.min-last.ensures ∙ ap (min c.args.shift.now.last) c.last.ensures.value in
    let none = overlap_none c.args.shift.now c.args.interval c.max-first.result c.min-last.result x first last c.if-last-first.true in
    let old = is_within c.args.interval x || is_member c.args.found.now.items x in
    sym (or-false old) ∙ ap (λ b. old || b) (sym none)

pub returns-then-shift-eq1 : goal.returns-then-shift-eq1
returns-then-shift-eq1 c x =
    let first = c.max-first.ensures ∙ ap (max c.args.shift.now.first) c.first.ensures.value in
    let last = c.min-last.ensures ∙ ap (min c.args.shift.now.last) c.last.ensures.value in
    ap (λ b. is_within c.args.interval x || b) (pushed _ _ _ x c.in_ok-push.ensures.items)
    ∙ or_assoc (is_within c.args.interval x) (is_member c.args.found.now.items x) _
    ∙ ap (λ b. (is_within c.args.interval x || is_member c.args.found.now.items x) || b)
    (ap (λ iv. is_within iv x) c.new.ensures
    ∙ rw (c.apply.ensures.value, c.apply-then-shift-eq1.ensures.value)
    (overlap_whole c.args.shift.now c.args.interval c.max-first.result c.min-last.result x c.requires c.if-shift-eq1.true first last
    c.if-last-first.false))

pub loop-c-init : goal.loop-c-init
loop-c-init c x =
    let old = is_within c.args.interval x || is_member c.args.found.now.items x in
    sym (or-false old) ∙ ap (λ b. old || b) (sym (lands_between_none c.args.shift.now c.max-first.result x))

pub loop-c-preserved : goal.loop-c-preserved
loop-c-preserved c =
    elim c.if-moves.branch [
      | then-moves+in_ok-push_target w ↦ λ x. rw w.found-is
          (between_more c.args.shift.now c.max-first.result c.loop-c.c x _ _ _ c.requires (omega arith)
          (sym c.moves.ensures ∙ w.if-moves.true) (c.loop-c.invariant x)
          (widened (x == c.loop-c.c) (is_within c.args.interval x) (is_member c.loop-c.found.items x) _ _
          (source_in c.args.interval c.loop-c.c x
          (omega (arith, c.max-first.ensures, c.first.ensures.value))
          (omega (arith, c.min-last.ensures, c.last.ensures.value)))
          (w.in_ok-push_target.ensures x ∙ ap (λ n. ((x == c.loop-c.c) || is_member c.loop-c.found.items x) || (x == n))
          w.apply-then-moves.ensures.value)))
      | else-moves w ↦ λ x. rw w.found-is
          (between_no_more c.args.shift.now c.max-first.result c.loop-c.c x _ _ (omega arith) (sym c.moves.ensures ∙ w.if-moves.false)
          (c.loop-c.invariant x))
    ]

pub returns : goal.returns
returns c x =
    let first = c.max-first.ensures ∙ ap (max c.args.shift.now.first) c.first.ensures.value in
    let last = c.min-last.ensures ∙ ap (min c.args.shift.now.last) c.last.ensures.value in
    let done : c.loop-c.c ≡ c.min-last.result + 1 = omega arith in
    c.loop-c.invariant x
    ∙ ap (λ k. (is_within c.args.interval x || is_member c.args.found.now.items x) || maps_to c.args.shift.now (between c.max-first.result k) x) done
    ∙ ap (λ b. (is_within c.args.interval x || is_member c.args.found.now.items x) || b) (between_all c.args.shift.now c.args.interval c.max-first.result c.min-last.result x first
    last)
