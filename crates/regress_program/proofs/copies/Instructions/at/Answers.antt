-- Without copies the instructions are those that are stored; otherwise all copies are looked at.
use Rattle.std.proofs.Common.{◌≡◌, ℕ, length, List, slice_get, Some, sym, ap, ◌∙◌, arith}
use Rattle.std.proofs.Math.Seq.{take-length}
use Rattle.std.proofs.lemmas.Option.{slice_get-get_or}
use Rattle.regress_program.specs.Copies.{expand}
use Rattle.regress_program.specs.Listed.{all_of}
use Rattle.regress_program.specs.declared.copies.Instructions.{Instructions}
use Rattle.regress_program.specs.declared.instruction.Instruction.{Instruction}
use Rattle.regress_program.proofs.copies.Instructions.at.Goals as goal

whole : (is : Instructions) (n : ℕ) → n ≡ length is.copies.items → expand is.stored.items is.copies.items n (length is.stored.items) ≡ all_of is
unfolding all_of
whole is n e = ap (λ (j : ℕ). expand is.stored.items is.copies.items j (length is.stored.items)) e

uncopied : (is : Instructions) → length is.copies.items ≡ 0 → is.stored.items ≡ all_of is
unfolding all_of
uncopied is none = sym (ap (λ (j : ℕ). expand is.stored.items is.copies.items j (length is.stored.items)) none ∙ take-length is.stored.items)

pub index-requires : goal.index-requires
index-requires c =
    let is = c.args.self.now in
    let none : length is.copies.items ≡ 0 = grind (arith, is.copies.ok, c.is_empty.ensures, c.if-is_empty.true) in
    omega (arith, c.requires, ap length (uncopied is none))

pub returns-then-is_empty : goal.returns-then-is_empty
returns-then-is_empty c =
    let is = c.args.self.now in
    let none : length is.copies.items ≡ 0 = grind (arith, is.copies.ok, c.is_empty.ensures, c.if-is_empty.true) in
    let same = uncopied is none in
    sym (ap (λ (xs : List Instruction). slice_get xs c.args.pc) same)
    ∙ slice_get-get_or is.stored.items c.args.pc c.index.result.now (omega (arith, c.requires, ap length same))
    ∙ ap Some (sym c.index.ensures)

pub at_before-requires : goal.at_before-requires
at_before-requires c =
    let all : length (expand c.args.self.now.stored.items c.args.self.now.copies.items c.len.result (length c.args.self.now.stored.items))
    ≡ length (all_of c.args.self.now) = ap length (whole c.args.self.now c.len.result (omega (arith, c.len.ensures))) in
    record { within = omega (arith, c.len.ensures); inside = omega (arith, c.requires, all) }

pub returns-else-is_empty : goal.returns-else-is_empty
returns-else-is_empty c = ap (λ (xs : List Instruction). slice_get xs c.args.pc) (sym (whole c.args.self.now c.len.result (omega (arith, c.len.ensures)))) ∙ c.at_before.ensures
