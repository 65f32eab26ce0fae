-- The complement of a set with these members is their complement.
use Rattle.std.proofs.Common.{Bool, sym, subst}
use Rattle.regress_classes.specs.ClassProductions.{complement_if}
use Rattle.regress_classes.specs.ClassViews.{HasMembers}
use Rattle.regress_lexer.proofs.lemmas.Sources.{ok_from_both}
use Rattle.regress_classes.proofs.ClosingLemmas.{complement_has}
use Rattle.regress_classes.proofs.class_sets.operand.complement_if.Goals as goal

pub returns-then-negated : goal.returns-then-negated
returns-then-negated c =
    ok_from_both c.inverted.result _ _ _
    (λ other opposite canonical members has.
    subst (λ (b : Bool). HasMembers (complement_if b members) other) (sym c.if-negated.true)
    (complement_has members c.args.set other opposite canonical has))
    c.inverted.ensures.members c.inverted.ensures.canonical
