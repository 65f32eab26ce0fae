use Rattle.std.proofs.Common.{◌≡◌, ℕ, sym, ap, arith, ◌∙◌}
use Rattle.regress_warnings.specs.Classes.{parts, have_twice, some_below}
use Rattle.regress_warnings.proofs.BelowLemmas.{some_holds}
use Rattle.regress_warnings.proofs.repeated.some_twice.Goals as goal

pub returns-then-have_twice : goal.returns-then-have_twice
returns-then-have_twice c =
    sym (some_holds (λ k. have_twice k (parts c.args.inside.now)) c.args.limit c.loop-c.c c.loop-c-test.true
    (sym c.have_twice.ensures ∙ c.if-have_twice.true))

pub returns : goal.returns
returns c =
    let last : c.loop-c.c ≡ c.args.limit = omega (arith, c.loop-c-test.false, c.loop-c.auto.c-end) in
    sym (ap (λ (n : ℕ). some_below n (λ k. have_twice k (parts c.args.inside.now))) (sym last) ∙ c.loop-c.invariant)
