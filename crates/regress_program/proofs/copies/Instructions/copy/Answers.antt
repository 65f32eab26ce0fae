-- The copies come last.
use Rattle.std.proofs.Common.{◌≡◌, ℕ, ◌+◌, ◌-◌, ◌*◌, ◌≤◌, OnErr, Result, Ok, Err, Some, slice_get, length, arith, refl, sym, ap, subst, ◌∙◌}
use Rattle.regress_program.specs.Copies.{NamesBelow, moved_in, times}
use Rattle.regress_program.specs.Listed.{all_of}
use Rattle.regress_program.specs.declared.copies.Instructions.{Instructions}
use Rattle.regress_program.specs.declared.instruction.Instruction.{Instruction}
use Rattle.regress_program.proofs.AppendLemmas.{all_of-same, same-invariant}
use Rattle.regress_program.proofs.CopyLemmas.{copy-invariant, all_of-copy, Appends-copy}
use Rattle.regress_program.proofs.copies.Instructions.copy.Goals as goal

counted : (is : Instructions) → is.len ≡ length (all_of is)
unfolding all_of
counted is = is.counted

on-err : {T E : Type 0} (r : Result T E) (P : Type 0) → P → OnErr r P
on-err (Ok x) P p = tt
on-err (Err e) P p = p

pub overflow_sub-width : goal.overflow_sub-width
overflow_sub-width c = omega (arith, c.requires.some, counted c.args.self.now)

pub invariant_of-self : goal.invariant_of-self
invariant_of-self c =
    let is = c.args.self.now in
    let kept = same-invariant is is.stored.items c.push.new.self.items refl c.in_err-push.ensures.items in
    record { are = kept.0; counted = kept.1 }

pub returns-in_err-push-clause-err : goal.returns-in_err-push-clause-err
returns-in_err-push-clause-err c = on-err c.from_residual.result _ (all_of-same c.args.self.now _ refl c.in_err-push.ensures.items)

pub overflow_mul-self : goal.overflow_mul-self
overflow_mul-self c =
    let is = c.args.self.now in
    let len = counted is in
    let width : length (all_of is) - c.args.start ≡ is.len - c.args.start = ap (λ (n : ℕ). n - c.args.start) (sym len) in
    let room : is.len + c.args.count * (is.len - c.args.start) ≤ 18446744073709551615 =
    subst (λ (n : ℕ). n + c.args.count * (n - c.args.start) ≤ 18446744073709551615) (sym len) c.requires.room in
    omega (arith, room)

pub overflow_add-self : goal.overflow_add-self
overflow_add-self c =
    let is = c.args.self.now in
    let len = counted is in
    let width : length (all_of is) - c.args.start ≡ is.len - c.args.start = ap (λ (n : ℕ). n - c.args.start) (sym len) in
    let room : is.len + c.args.count * (is.len - c.args.start) ≤ 18446744073709551615 =
    subst (λ (n : ℕ). n + c.args.count * (n - c.args.start) ≤ 18446744073709551615) (sym len) c.requires.room in
    omega (arith, room)

pub invariant_of-self-2 : goal.invariant_of-self-2
invariant_of-self-2 c =
    let is = c.args.self.now in
    let len = counted is in
    let width : length (all_of is) - c.args.start ≡ is.len - c.args.start = ap (λ (n : ℕ). n - c.args.start) (sym len) in
    let named : (pc : ℕ) (i : Instruction) → is.len ≤ pc + (is.len - c.args.start) → slice_get (all_of is) pc ≡ Some i → NamesBelow is.len i =
    λ pc i low found. subst (λ (n : ℕ). NamesBelow n i) (sym len) (c.requires.named pc i (omega (arith, low, c.requires.some, len)) found) in
    let kept = copy-invariant is is.stored.items c.push.new.self.items
    (record { start = is.len; width = is.len - c.args.start; count = c.args.count; from = c.args.from; stored = c.len.result }) refl
    c.in_ok-push.ensures.items (omega (arith, c.len.ensures)) len (omega (arith, c.requires.some, len))
    (omega (arith, c.requires.from, c.requires.some, len)) named in
    record { are = kept.0; counted = kept.1 }

pub returns-clause-copied : goal.returns-clause-copied
returns-clause-copied c =
    let is = c.args.self.now in
    let len = counted is in
    let width : length (all_of is) - c.args.start ≡ is.len - c.args.start = ap (λ (n : ℕ). n - c.args.start) (sym len) in
    let named : (pc : ℕ) (i : Instruction) → is.len ≤ pc + (is.len - c.args.start) → slice_get (all_of is) pc ≡ Some i → NamesBelow is.len i =
    λ pc i low found. subst (λ (n : ℕ). NamesBelow n i) (sym len) (c.requires.named pc i (omega (arith, low, c.requires.some, len)) found) in
    all_of-copy is _ is (record { start = is.len; width = is.len - c.args.start; count = c.args.count; from = c.args.from; stored = c.len.result }) refl
    c.in_ok-push.ensures.items (omega (arith, c.len.ensures)) len (omega (arith, c.requires.some, len))
    (omega (arith, c.requires.from, c.requires.some, len)) named
    ∙ ap (λ (n : ℕ). times (moved_in c.args.from n) n c.args.count (all_of is)) (sym width)

pub returns-clause-appends : goal.returns-clause-appends
returns-clause-appends c =
    let is = c.args.self.now in
    let len = counted is in
    let width : length (all_of is) - c.args.start ≡ is.len - c.args.start = ap (λ (n : ℕ). n - c.args.start) (sym len) in
    let named : (pc : ℕ) (i : Instruction) → is.len ≤ pc + (is.len - c.args.start) → slice_get (all_of is) pc ≡ Some i → NamesBelow is.len i =
    λ pc i low found. subst (λ (n : ℕ). NamesBelow n i) (sym len) (c.requires.named pc i (omega (arith, low, c.requires.some, len)) found) in
    λ base low grown. Appends-copy is _ base (record { start = is.len; width = is.len - c.args.start; count = c.args.count; from = c.args.from; stored = c.len.result }) refl
    c.in_ok-push.ensures.items (omega (arith, c.len.ensures)) len (omega (arith, c.requires.some, len))
    (omega (arith, c.requires.from, c.requires.some, len)) named
    (omega (arith, low, c.requires.some, len)) grown
