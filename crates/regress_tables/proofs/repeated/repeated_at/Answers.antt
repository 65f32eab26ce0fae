use Rattle.std.proofs.Common.{◌≡◌, IfSome, Some, true, slice_get, inl, inr, sym, ap, ◌∙◌, subst, arith}
use Rattle.std.proofs.lemmas.List.{length-map}
use Rattle.regress_prefilter.specs.OneCharacter.{takes_one}
use Rattle.regress_program.specs.Listed.{listed}
use Rattle.regress_program.specs.Views.{leaf_in, op_in}
use Rattle.regress_tables.specs.declared.repetitions.Repetition.{Repetition}
use Rattle.regress_tables.proofs.FirstLemmas.{op-here}
use Rattle.regress_tables.proofs.repeated.repeated_at.Goals as goal

pub returns-in_default-2-clause-one : goal.returns-in_default-2-clause-one
returns-in_default-2-clause-one c = λ one k r is. elim (c.index_in.ensures.only k r is) [
  | inl old ↦ one k r old
  | inr new ↦
      subst (λ x. takes_one (leaf_in c.args.input.code.now.program.leaves.items x.leaf) ≡ true) (sym new)
      (c.is_one.ensures c.if-not-is_one.false)
]

pub returns-clause-one : goal.returns-clause-one
returns-clause-one c = λ one k r is. elim (c.index_in.ensures.only k r is) [
  | inl old ↦ one k r old
  | inr new ↦
      subst (λ x. takes_one (leaf_in c.args.input.code.now.program.leaves.items x.leaf) ≡ true) (sym new)
      (c.is_one.ensures c.if-not-is_one.false)
]

pub returns-clause-repeated : goal.returns-clause-repeated
returns-clause-repeated c =
    let leaves = c.args.input.code.now.program.leaves.items in
    let items = listed c.args.routine.now in
    let r : Repetition = record { leaf = c.in-Characters.leaf; count = c.in-Characters.count } in
    record {
      repetition = r;
      at = subst (λ o. IfSome o (λ k. slice_get c.index_in.new.distinct.items k ≡ Some r)) c.in-Some.is c.in_ok-repetition.ensures.at;
      matches = op-here leaves items c.args.pc c.at.result c.at.ensures ∙ ap (λ i. Some (op_in leaves i)) c.in-Characters.is;
      next = omega (arith, c.if-next-len.false, c.len-2.ensures, length-map items (op_in leaves));
    }
