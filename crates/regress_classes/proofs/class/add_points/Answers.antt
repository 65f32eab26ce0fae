-- The code units before the range, the range, and those after it.
use Rattle.std.proofs.Common.{List, [], ◌∷◌, ◌++◌, subst}
use Rattle.regress_base.specs.Intervals.{Bounds}
use Rattle.regress_classes.specs.ClassProductions.{splits, units_before, units_after}
use Rattle.regress_classes.specs.ClassViews.{Adds}
use Rattle.regress_classes.proofs.ClassLemmas.{adds_one, adds_both}
use Rattle.regress_classes.proofs.CodeUnitLemmas.{units_in_order}
use Rattle.regress_classes.proofs.class.add_points.Goals as goal

pub returns-clause-ok : goal.returns-clause-ok
returns-clause-ok c =
    let split = splits c.args.parameters.now in
    let first = c.last_unit-first in
    let last = c.first_unit-last in
    let range : Bounds = record { first = first.result; last = last.result } in
    let before : List Bounds = units_before split c.args.a in
    let after : List Bounds = units_after split c.args.b in
    let middle = c.add_units_before.new.set in
    let ranged = c.add.new.self in (
      before ++ range ∷ after,
      units_in_order split c.args.a c.args.b first.result last.result first.ensures.value last.ensures.value c.if-first-last.false,
      adds_both before (range ∷ after) c.args.set.now middle c.add_units_after.new.set c.in_ok-add_units_before.ensures
          (adds_both (range ∷ []) after middle ranged c.add_units_after.new.set
          (subst (λ (iv : Bounds). Adds (iv ∷ []) middle ranged) c.new.ensures (adds_one c.new.result middle ranged c.in_ok-add.ensures))
          c.in_ok-add_units_after.ensures),
    )
