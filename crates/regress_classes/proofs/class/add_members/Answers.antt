-- The complement is added interval by interval.
use Rattle.std.proofs.Common.{sym, subst, Bool}
use Rattle.std.proofs.lemmas.Result.{on_ok_weaker}
use Rattle.regress_classes.specs.ClassProductions.{complement_if}
use Rattle.regress_classes.specs.ClassViews.{Adds}
use Rattle.regress_classes.proofs.ClassLemmas.{adds_complement}
use Rattle.regress_classes.proofs.class.add_members.Goals as goal

pub returns-in_ok-inverted : goal.returns-in_ok-inverted
returns-in_ok-inverted c =
    let members = c.args.members.now in
    let old = c.args.set.now in
    let new = c.add_all.new.self in
    on_ok_weaker c.add_all.result
    (λ adds. subst (λ (negated : Bool). Adds (complement_if negated members) old new) (sym c.if-negated.true)
    (adds_complement members c.in_ok-inverted.field-0 old new c.in_ok-inverted.ensures.members c.in_ok-inverted.ensures.canonical
    (subst (λ others. Adds others old new) c.intervals-then-negated.ensures.value adds)))
    c.add_all.ensures
