-- No member is before the first interval or after the last.
use Rattle.std.proofs.Common.{◌-◌, ◌<◌, ◌≤◌, length, sym, subst, arith}
use Rattle.std.proofs.lemmas.Bool.{eqb-true}
use Rattle.regress_base.specs.Intervals.{Bounds}
use Rattle.regress_unicode.proofs.ClosingLemmas.{no_member, positive, first_least, last_greatest}
use Rattle.regress_unicode.proofs.closure.ends.Goals as goal

pub returns-then-is_empty : goal.returns-then-is_empty
returns-then-is_empty c x member = absurd (no_member c.args.intervals.now x (eqb-true _ 0 (sym c.if-is_empty.ensures)) member)

pub returns : goal.returns
returns c x member =
    let some : 0 < length c.args.intervals.now = positive _ (sym c.if-is_empty.ensures) in
    let first = first_least c.args.intervals.now x c.index-intervals-0.result c.requires member some in
    let last = last_greatest 0 c.args.intervals.now (length c.args.intervals.now - 1) x c.index-intervals-intervals.result c.requires
    (omega arith) member in
    let least : c.index-intervals-0.result.first ≤ x = subst (λ (iv : Bounds). iv.first ≤ x) (sym c.index-intervals-0.is) first in
    let greatest : x ≤ c.index-intervals-intervals.result.last = subst (λ (iv : Bounds). x ≤ iv.last) (sym c.index-intervals-intervals.is) last in
    (omega arith, omega arith)
