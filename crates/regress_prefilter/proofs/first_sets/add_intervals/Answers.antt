use Rattle.std.proofs.Common.{rules, arith, ◌≡◌, ◌<◌, ◌+◌, ◌∷◌, ◌∙◌, ⊎_elim, inl, inr, length, drop, ap, sym}
use Rattle.std.proofs.lemmas.List.{drop_more}
use Rattle.regress_base.specs.ByteBitmap.{contains}
use Rattle.regress_prefilter.proofs.FirstSetLemmas.{left_member, covered_kept, within_covered, none_left}
use Rattle.regress_prefilter.proofs.first_sets.add_intervals.Goals as goal

pub loop-interval-preserved : goal.loop-interval-preserved
loop-interval-preserved c = λ x is.
    let xs = c.args.intervals.now in
    let i = c.loop-interval.interval-index in
    let new = contains c.add_utf8_first_bytes_to_bitmap.new.bitmap in
    let in_list : i < length xs = search rules in
    let split : drop i xs ≡ c.interval-item.result ∷ drop (i + 1) xs =
    drop_more xs i c.interval-item.result in_list ∙ ap (λ y. y ∷ drop (i + 1) xs) (sym c.interval-item.is) in
    ⊎_elim
    (λ left.
    left_member new xs i x c.interval-item.result split
    (within_covered new c.interval-item.result x (λ b between. (c.add_utf8_first_bytes_to_bitmap.ensures b).1 (inr between))) left)
    (λ covered. inr (covered_kept _ new x (λ b h. (c.add_utf8_first_bytes_to_bitmap.ensures b).1 (inl h)) covered))
    (c.loop-interval.invariant x is)

pub returns : goal.returns
returns c = λ x is.
    ⊎_elim (λ left. absurd (none_left c.args.intervals.now c.loop-interval.interval-index x (omega (arith, c.loop-interval-test.false)) left))
    (λ covered. covered) (c.loop-interval.invariant x is)
