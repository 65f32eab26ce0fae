use Rattle.std.proofs.Common.{rules, arith, ◌≡◌, ◌<◌, ◌+◌, ◌∷◌, ◌∙◌, ap, drop, length, min, sym}
use Rattle.std.proofs.lemmas.List.{drop_more}
use Rattle.regress_base.specs.ByteBitmap.{contains}
use Rattle.regress_leaves.proofs.AsciiSetLemmas.{all_visited, beyond, members_more, still_ascending}
use Rattle.regress_leaves.proofs.ascii_sets.ascii_within.Goals as goal

pub returns-then-first-ge128 : goal.returns-then-first-ge128
returns-then-first-ge128 c =
    let xs = c.args.intervals.now in
    let i = c.loop-interval.interval-index in
    let in_list : i < length xs = search rules in
    let split : drop i xs ≡ c.interval-item.result ∷ drop (i + 1) xs =
    drop_more xs i c.interval-item.result in_list ∙ ap (λ y. y ∷ drop (i + 1) xs) (sym c.interval-item.is) in
    beyond xs i (contains c.loop-interval.set) c.loop-interval.invariant.ascend c.loop-interval.invariant.members c.interval-item.result (drop (i + 1) xs) split
    (omega (arith, c.if-first-ge128.true, c.first.ensures.value))

pub loop-interval-preserved : goal.loop-interval-preserved
loop-interval-preserved c =
    let xs = c.args.intervals.now in
    let i = c.loop-interval.interval-index in
    let iv = c.interval-item.result in
    let f = contains c.loop-interval.set in
    let in_list : i < length xs = search rules in
    let split : drop i xs ≡ iv ∷ drop (i + 1) xs = drop_more xs i iv in_list ∙ ap (λ y. y ∷ drop (i + 1) xs) (sym c.interval-item.is) in
    record {
      ascend = still_ascending xs i f c.loop-interval.invariant.ascend c.loop-interval.invariant.members iv (drop (i + 1) xs) split;
      members =
          members_more xs i f c.loop-interval.invariant.ascend c.loop-interval.invariant.members iv (drop (i + 1) xs) split (contains c.add_run.new.set)
          c.first-in-loop-interval.result c.min.result c.first-in-loop-interval.ensures.value (c.min.ensures ∙ ap (λ x. min x 127) c.last.ensures.value) c.add_run.ensures;
    }

pub returns : goal.returns
returns c =
    all_visited c.args.intervals.now c.loop-interval.interval-index (contains c.loop-interval.set) c.loop-interval.invariant.ascend c.loop-interval.invariant.members
    (omega (arith, c.loop-interval-test.false))
