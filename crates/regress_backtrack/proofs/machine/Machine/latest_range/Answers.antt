use Rattle.std.proofs.Common.{◌≡◌, ◌+◌, ◌-◌, ◌∷◌, ◌++◌, [], sym, ap, ◌∙◌, arith}
use Rattle.regress_backtrack.specs.declared.machine.Entry.TheVariants as entries
use Rattle.regress_backtrack.proofs.machine.Machine.latest_range.Goals as goal

pub returns-in-Points-clause-latest : goal.returns-in-Points-clause-latest
returns-in-Points-clause-latest c =
    let first = c.in-Points.first in
    let before = c.in_ok-latest.field-0-1.now in
    let last : c.in-Points.last ≡ first.position + (c.in-Points.last - first.position) = omega (arith, c.if-last-first.true) in
    record {
      before = before;
      entries = sym c.deref.ensures.value ∙ c.in_ok-latest.ensures.cases.0 ∙ ap (λ e. before ++ e ∷ []) c.in-Points.is ∙ ap (λ n. before ++ entries.Points first n ∷ []) last;
    }
