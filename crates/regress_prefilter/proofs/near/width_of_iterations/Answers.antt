use Rattle.std.proofs.Common.{◌*◌, subst, sym}
use Rattle.regress_tree.specs.Repetition.{repeat_matcher}
use Rattle.regress_prefilter.specs.Near.{AdvancesAtMost}
use Rattle.regress_prefilter.proofs.NearLemmas.{at_most_repeat, if_fits}
use Rattle.regress_prefilter.proofs.near.width_of_iterations.Goals as goal

pub returns : goal.returns
returns c =
    let n = c.in_ok-width.field-0 in
    let q = c.args.quant in
    if_fits c.checked_mul.result _ _ _ c.checked_mul.ensures
    (λ f bound start end body.
    subst (λ k. AdvancesAtMost (n * k) (repeat_matcher bound q start end f)) (sym c.max-most.ensures)
    (at_most_repeat n c.in_ok-quant.field-0 bound q start end f c.in_ok-quant.was (rw c.in_ok-width.was at body)))
