-- The first copies come after instructions that are stored one by one.
use Rattle.std.proofs.Common.{◌≡◌, List, length, take, slice_get, Some, None, sym, subst, ap, ◌∙◌, arith}
use Rattle.std.specs.Option.{option_copied}
use Rattle.std.proofs.lemmas.List.{length-take}
use Rattle.regress_program.specs.Listed.{Begins, all_of}
use Rattle.regress_program.specs.declared.copies.Copies.{Copies}
use Rattle.regress_program.specs.declared.copies.Instructions.{Instructions}
use Rattle.regress_program.specs.declared.instruction.Instruction.{Instruction}
use Rattle.regress_program.proofs.FindLemmas.{none-begins}
use Rattle.regress_program.proofs.StoredLemmas.{first-begins}
use Rattle.regress_program.proofs.copies.Instructions.leading.Goals as goal

begins-none : (is : Instructions) (xs : List Instruction) → xs ≡ is.stored.items → slice_get is.copies.items 0 ≡ None → Begins xs (all_of is)
unfolding all_of
begins-none is xs same none = subst (λ (ys : List Instruction). Begins ys (all_of is)) (sym same) (none-begins is.stored.items is.copies.items none)

begins-some : (is : Instructions) (xs : List Instruction) (r : Copies) → xs ≡ is.stored.items → slice_get is.copies.items 0 ≡ Some r → Begins (take r.stored xs) (all_of is)
unfolding all_of
begins-some is xs r same some =
    subst (λ (ys : List Instruction). Begins (take r.stored ys) (all_of is)) (sym same) (first-begins is.stored.items is.copies.items is.are r some)

pub slice_bounds-result-end : goal.slice_bounds-result-end
slice_bounds-result-end c =
    let is = c.args.self.now in
    let same : c.deref.result.now ≡ is.copies.items = c.deref.ensures.value in
    let some : slice_get is.copies.items 0 ≡ Some c.in-Some.copies.now = ap (λ rs. slice_get rs 0) (sym same) ∙ sym c.first.ensures.value ∙ ap option_copied c.in-Some.is in
    let within = (is.are 0 c.in-Some.copies.now some).within in
    let len : length c.deref-in-Some.result.now ≡ length is.stored.items = ap length c.deref-in-Some.ensures.value in
    omega (arith, within, len, length-take c.in-Some.copies.now.stored c.deref-in-Some.result.now)

pub returns-in-None : goal.returns-in-None
returns-in-None c =
    let is = c.args.self.now in
    let same : c.deref.result.now ≡ is.copies.items = c.deref.ensures.value in
    begins-none is c.deref-in-None.result.now c.deref-in-None.ensures.value
    (ap (λ rs. slice_get rs 0) (sym same) ∙ sym c.first.ensures.value ∙ ap option_copied c.in-None.is)

pub returns-in-Some : goal.returns-in-Some
returns-in-Some c =
    let is = c.args.self.now in
    let same : c.deref.result.now ≡ is.copies.items = c.deref.ensures.value in
    begins-some is c.deref-in-Some.result.now c.in-Some.copies.now c.deref-in-Some.ensures.value
    (ap (λ rs. slice_get rs 0) (sym same) ∙ sym c.first.ensures.value ∙ ap option_copied c.in-Some.is)
