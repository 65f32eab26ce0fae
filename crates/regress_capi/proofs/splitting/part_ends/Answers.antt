use Rattle.std.proofs.Common.{ap, flat_map, sym, ◌∙◌}
use Rattle.std.proofs.lemmas.Result.{err_from_is_err_and}
use Rattle.regress_capi.specs.Spans.{ends_of}
use Rattle.regress_capi.proofs.splitting.part_ends.Goals as goal

pub returns-clause-ends : goal.returns-clause-ends
returns-clause-ends c =
    (c.in_ok-spans.spans.items, c.in_ok-spans.ensures.split, c.in_ok-all_ends.ensures ∙ ap (flat_map ends_of) c.deref.ensures.value)

pub returns-in_err-spans-clause-failed : goal.returns-in_err-spans-clause-failed
returns-in_err-spans-clause-failed c =
    let p = err_from_is_err_and c.from_residual.result c.from_residual.ensures.1 in
    rw p.1 (λ is. record { linear = c.in_err-spans.ensures.linear (sym p.2 ∙ is); costs = c.in_err-spans.ensures.costs (sym p.2 ∙ is) })
