-- The trailing surrogate, if there are two code units.
use Rattle.std.proofs.Common.{ℕ, sym, subst, ◌∙◌}
use Rattle.regress_classes.specs.ClassProductions.{splits, one_point}
use Rattle.regress_classes.specs.ClassViews.{Adds}
use Rattle.regress_classes.proofs.CodeUnitLemmas.{adds_unit, adds_trail, adds_none_after}
use Rattle.regress_classes.proofs.code_units.add_units_after.Goals as goal

pub returns-in_ok-add : goal.returns-in_ok-add
returns-in_ok-add c =
    let old = c.args.set.now in
    let new = c.add.new.self in
    adds_trail (splits c.args.parameters.now) c.args.c old new (sym c.splits_point.ensures ∙ c.if-splits_point.true)
    (subst (λ (unit : ℕ). Adds (one_point unit) old new) c.last_unit-unit.ensures.value
    (adds_unit c.last_unit-unit.result c.new.result old new c.new.ensures c.in_ok-add.ensures))

pub returns-else-splits_point : goal.returns-else-splits_point
returns-else-splits_point c = adds_none_after (splits c.args.parameters.now) c.args.c c.args.set.now (sym c.splits_point.ensures ∙ c.if-splits_point.false)
