-- The instruction comes last.
use Rattle.std.proofs.Common.{OnErr, Result, Ok, Err, arith, refl}
use Rattle.regress_program.specs.Listed.{all_of}
use Rattle.regress_program.proofs.AppendLemmas.{Appends-push, all_of-push, all_of-same, push-invariant, same-invariant}
use Rattle.regress_program.proofs.copies.Instructions.push.Goals as goal

on-err : {T E : Type 0} (r : Result T E) (P : Type 0) → P → OnErr r P
on-err (Ok x) P p = tt
on-err (Err e) P p = p

pub invariant_of-self : goal.invariant_of-self
invariant_of-self c =
    let is = c.args.self.now in
    let kept = same-invariant is c.push.new.self.items is.copies.items c.in_err-push.ensures.items refl in
    record { are = kept.0; counted = kept.1 }

pub returns-in_err-push-clause-err : goal.returns-in_err-push-clause-err
returns-in_err-push-clause-err c = on-err c.from_residual.result _ (all_of-same c.args.self.now _ c.in_err-push.ensures.items refl)

pub overflow_add-self : goal.overflow_add-self
unfolding all_of
overflow_add-self c = omega (arith, c.requires, c.args.self.now.counted)

pub invariant_of-self-2 : goal.invariant_of-self-2
invariant_of-self-2 c =
    let kept = push-invariant c.args.self.now c.push.new.self.items c.args.instruction c.in_ok-push.ensures.items in
    record { are = kept.0; counted = kept.1 }

pub returns-clause-pushed : goal.returns-clause-pushed
returns-clause-pushed c = all_of-push c.args.self.now _ c.args.instruction c.in_ok-push.ensures.items refl

pub returns-clause-appends : goal.returns-clause-appends
returns-clause-appends c = λ below. Appends-push c.args.self.now _ c.args.instruction c.in_ok-push.ensures.items refl below
