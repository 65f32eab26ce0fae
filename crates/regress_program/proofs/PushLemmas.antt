-- What is known after an instruction has been added, or copies.
use Rattle.std.proofs.Common.{◌≡◌, ◌≤◌, ◌<◌, Result, Ok, Err, IfOk, OnErr, All, [], ◌∷◌, ℕ, ◌+◌, ◌-◌, ◌*◌, length, ap, ◌∙◌, arith}
use Rattle.std.proofs.lemmas.List.Elements.{All-cons, All-nil}
use Rattle.regress_program.specs.Copies.{moved_in, times}
use Rattle.regress_program.specs.Listed.{all_of}
use Rattle.regress_program.specs.declared.copies.Instructions.{Instructions}
use Rattle.regress_program.proofs.TimesLemmas.{times-length}

-- two facts on what a call returns
pub IfOk-both : {T E : Type 0} (r : Result T E) (P Q R : T → Type 0) → ((x : T) → P x → Q x → R x) → IfOk r P → IfOk r Q → IfOk r R
IfOk-both (Ok x) P Q R f p q = f x p q
IfOk-both (Err y) P Q R f p q = tt

-- copies, or none, within what is left
pub room-copied : {T E : Type 0} (r : Result T E) (old new : Instructions) (from start count added left : ℕ) → start < length (all_of old) →
    added ≡ count * (length (all_of old) - start) → added ≤ left → left + length (all_of old) ≤ 18446744073709551615 →
    IfOk r (λ _. all_of new ≡ times (moved_in from (length (all_of old) - start)) (length (all_of old) - start) count (all_of old)) →
    OnErr r (all_of new ≡ all_of old) →
    left - added + length (all_of new) ≤ 18446744073709551615
room-copied (Ok x) old new from start count added left some is le room copied err =
    let long : length (all_of new) ≡ length (all_of old) + count * (length (all_of old) - start) =
    ap length copied ∙ times-length (moved_in from (length (all_of old) - start)) (length (all_of old) - start) count (all_of old) (omega arith) in
    omega (arith, long, is, le, room)
room-copied (Err y) old new from start count added left some is le room copied err = omega (arith, ap length err, le, room)

-- ---- which instructions an instruction names

pub names-none : (n : ℕ) → All (λ (j : ℕ). j < n) []
names-none n = All-nil (λ (j : ℕ). j < n)

pub names-one : (n k : ℕ) → k < n → All (λ (j : ℕ). j < n) (k ∷ [])
names-one n k lt = All-cons (λ (j : ℕ). j < n) k [] lt (names-none n)

pub names-two : (n i k : ℕ) → i < n → k < n → All (λ (j : ℕ). j < n) (i ∷ k ∷ [])
names-two n i k lt lt' = All-cons (λ (j : ℕ). j < n) i (k ∷ []) lt (names-one n k lt')
