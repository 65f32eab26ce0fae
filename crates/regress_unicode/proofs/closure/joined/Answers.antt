-- The second interval begins in the first one or right after it.
use Rattle.std.proofs.Common.{◌≡◌, ◌+◌, ◌≤◌, ◌∙◌, max, ap, arith}
use Rattle.regress_base.specs.Intervals.{is_within}
use Rattle.regress_unicode.proofs.ClosingLemmas.{joined_within}
use Rattle.regress_unicode.proofs.closure.joined.Goals as goal

pub returns-then-first-last : goal.returns-then-first-last
returns-then-first-last c x =
    let a = c.args.a in
    let b = c.args.b in
    let from : a.first ≤ b.first = omega (arith, c.if-first.true, c.first.ensures.value, c.first-2.ensures.value) in
    let to : b.first ≤ a.last + 1 = omega (arith, c.if-first-last.true, c.first-then-first.ensures.value, c.last.ensures.value) in
    let last : c.max.result ≡ max a.last b.last =
    omega (arith, c.max.ensures, c.last-then-first-last.ensures.value, c.last-then-first-last-2.ensures.value) in
    ap (λ iv. is_within iv x) c.new.ensures
    ∙ rw c.first-then-first-last.ensures.value (joined_within a b c.max.result x from to c.last.ensures.ordered c.last-then-first-last-2.ensures.ordered last)
