use Rattle.std.proofs.Common.{◌≡◌, ◌++◌, [], ◌∷◌, get_or, slice_get, Some, ap, ap₂, sym, ◌∙◌, arith}
use Rattle.std.proofs.lemmas.Option.{slice_get-get_or}
use Rattle.regress_tables.specs.declared.slots.Slot.TheVariants.{Unset}
use Rattle.regress_tables.specs.Slots.{value}
use Rattle.regress_tables.proofs.SlotLemmas.{resolved-more}
use Rattle.regress_tables.proofs.slots.captures_of.Goals as goal

pub loop-slot-preserved : goal.loop-slot-preserved
loop-slot-preserved c = λ capture_of.
    let slots = c.args.slots.now in
    let i = c.loop-slot.slot-index in
    let is : slice_get slots i ≡ Some (get_or slots i Unset) = slice_get-get_or slots i Unset c.loop-slot-test.true in
    let here : c.span_of.result ≡ value capture_of i (get_or slots i Unset) =
    c.span_of.ensures capture_of i (λ routine position same. omega (arith, (c.requires.2 i routine position (is ∙ ap Some same)).0)) in
    c.in_ok-push.ensures.items ∙ ap₂ (λ xs x. xs ++ x ∷ []) (c.loop-slot.invariant capture_of) here
    ∙ sym (resolved-more capture_of i (get_or slots i Unset) slots is)
