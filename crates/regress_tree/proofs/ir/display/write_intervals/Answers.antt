-- The text written so far, and one more interval.
use Rattle.std.proofs.Common.{◌-◌, ◌++◌, ◌∷◌, true, take, drop, length, get_or, codes, refl, sym, ap, ◌∙◌, append-nil}
use Rattle.std.proofs.lemmas.List.{take_all, get_or_default}
use Rattle.std.proofs.Output.{has_written_append, has_written_of_eq}
use Rattle.std.specs.List.{join_by}
use Rattle.regress_base.specs.Intervals.{Bounds}
use Rattle.regress_tree.specs.Display.{interval}
use Rattle.regress_tree.proofs.LoopLemmas.{joined_next, first_and_rest}
use Rattle.regress_tree.proofs.ir.display.write_intervals.Goals as goal

abbrev none : Bounds
none = record { first = 0; last = 0 }

pub loop-interval-init : goal.loop-interval-init
loop-interval-init g c plain =
    let intervals = c.args.intervals.now in
    let first = c.first-item.result in
    let is = c.first-item.is ∙ get_or_default intervals 0 first none c.in-len1-up.len_at_least in
    has_written_of_eq _ _ _ _ _ (ap interval is ∙ sym (append-nil (interval (get_or intervals 0 none))))
    (c.in_ok-write_interval.ensures plain (refl {a = true}))

pub loop-interval-preserved : goal.loop-interval-preserved
loop-interval-preserved g c plain =
    let intervals = c.args.intervals.now in
    let rest = take (length intervals - 1) (drop 1 intervals) in
    let l = c.loop-interval in
    let next = c.interval-item.result in
    let so_far = l.invariant plain in
    let comma = c.in_ok-write_str.ensures.writes so_far.plain (refl {a = true}) in
    let one = has_written_append _ _ _ _ _ _ comma (c.in_ok-write_interval-2.ensures comma.plain (refl {a = true})) in
    let text = interval (get_or intervals 0 none) in
    let more = λ (iv : Bounds). codes ", " ++ interval iv in
    let joined = joined_next more text rest l.interval-index next c.loop-interval-test.true in
    has_written_of_eq _ _ _ _ _ joined
    (has_written_append _ _ _ _ _ _ so_far (has_written_of_eq _ _ _ _ _ (ap more c.interval-item.is) one))

pub returns-after-loop-interval : goal.returns-after-loop-interval
returns-after-loop-interval g c plain ok =
    let intervals = c.args.intervals.now in
    let rest = take (length intervals - 1) (drop 1 intervals) in
    let all = ap (λ ivs. get_or intervals 0 none ∷ ivs) (take_all c.loop-interval.interval-index rest c.loop-interval-test.false) in
    has_written_of_eq _ _ _ _ _ (ap (join_by interval (codes ", ")) (all ∙ first_and_rest intervals none c.in-len1-up.len_at_least))
    (c.loop-interval.invariant plain)
