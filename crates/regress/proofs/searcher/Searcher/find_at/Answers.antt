use Rattle.std.proofs.Common.{sym, ◌∙◌}
use Rattle.std.proofs.Math.Logic.{∥∥₁_elim}
use Rattle.std.proofs.lemmas.Result.{err_from_is_err_and}
use Rattle.regress_match.proofs.lemmas.Costs.{has_costs}
use Rattle.regress.specs.Costs.{matcher_of}
use Rattle.regress.specs.Inside.{IsInside-prop}
use Rattle.regress.proofs.searcher.Searcher.find_at.Goals as goal

pub returns-in-Some-clause-inside : goal.returns-in-Some-clause-inside
returns-in-Some-clause-inside c =
    ∥∥₁_elim c.args.regex.now.well_formed (IsInside-prop _ _) (rw c.in-Some.is at c.in_ok-found.ensures.inside)

pub returns-in_err-found-clause-costs : goal.returns-in_err-found-clause-costs
returns-in_err-found-clause-costs c =
    let p = err_from_is_err_and c.from_residual.result c.from_residual.ensures.1 in
    rw p.1 (λ is. record {
      has = has_costs (matcher_of c.args.regex.now) c.args.text.now;
      within = c.in_err-found.ensures.costs (sym p.2 ∙ is);
    })
