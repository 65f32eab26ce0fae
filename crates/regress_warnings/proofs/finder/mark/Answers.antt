use Rattle.std.proofs.Common.{ℕ, ◌<◌, Bool, ◌||◌, ◌==◌, List, length, ap, subst, ◌∙◌}
use Rattle.regress_warnings.specs.Walked.{is_recorded}
use Rattle.regress_warnings.proofs.MarkLemmas.{pushed_same, marked}
use Rattle.regress_warnings.proofs.finder.mark.Goals as goal

pub loop-numbers-preserved : goal.loop-numbers-preserved
loop-numbers-preserved c = λ n.
    ap (λ (flags : List Bool). is_recorded flags n) c.in_ok-push.ensures.items ∙ pushed_same c.loop-numbers.numbers.items n
    ∙ c.loop-numbers.invariant n

pub returns : goal.returns
returns c = λ n.
    let within : c.args.number < length c.loop-numbers.numbers.items =
    subst (λ (size : ℕ). c.args.number < size) (c.len.ensures ∙ c.loop-numbers.numbers.ok.0) c.loop-numbers-test.false in
    marked c.loop-numbers.numbers.items c.args.number n within ∙ ap (λ (b : Bool). b || c.args.number == n) (c.loop-numbers.invariant n)
