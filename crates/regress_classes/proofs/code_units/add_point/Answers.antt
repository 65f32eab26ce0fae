-- The code units before the last one, and that one.
use Rattle.std.proofs.Common.{ℕ, subst}
use Rattle.std.proofs.lemmas.Result.{on_ok_weaker}
use Rattle.regress_classes.specs.ClassProductions.{splits, one_point, units_before, last_unit}
use Rattle.regress_classes.specs.ClassViews.{Adds}
use Rattle.regress_classes.proofs.ClassLemmas.{adds_both}
use Rattle.regress_classes.proofs.CodeUnitLemmas.{adds_unit}
use Rattle.regress_classes.proofs.code_units.add_point.Goals as goal

pub returns : goal.returns
returns c =
    let split = splits c.args.parameters.now in
    let between = c.add_units_before.new.set in
    let new = c.add.new.self in
    on_ok_weaker c.add.result
    (λ adds. adds_both (units_before split c.args.c) (one_point (last_unit split c.args.c)) c.args.set.now between new c.in_ok-add_units_before.ensures
    (subst (λ (unit : ℕ). Adds (one_point unit) between new) c.last_unit-unit.ensures.value
    (adds_unit c.last_unit-unit.result c.new.result between new c.new.ensures adds)))
    c.add.ensures
