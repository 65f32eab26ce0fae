use Rattle.std.proofs.Common.{◌∙◌, ap, sym, subst, IsTrue, List, ℕ}
use Rattle.std.proofs.lemmas.Result.{IfOk-weaker}
use Rattle.regress_properties.specs.declared.data.names.TheConstants.{ID_START}
use Rattle.regress_properties.specs.Listed.{set_at, is_set_at}
use Rattle.regress_properties.specs.Properties.{unicode_id_start}
use Rattle.regress_properties.proofs.ConstantsLemmas.{id_start}
use Rattle.regress_properties.proofs.properties.id_start.Goals as goal

pub set_at-requires : goal.set_at-requires
set_at-requires c = subst (λ (xs : List ℕ). IsTrue (is_set_at xs ID_START.0 ID_START.1)) (sym c.intervals.ensures) id_start

pub returns : goal.returns
unfolding unicode_id_start
returns c =
    IfOk-weaker c.set_at.result _ _ (λ set is. is ∙ ap (λ xs. set_at xs ID_START.0 ID_START.1) c.intervals.ensures) c.set_at.ensures
