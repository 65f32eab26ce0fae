-- Instructions that are put into two lists, of which the second follows the first.
use Rattle.std.proofs.Common.{zero, suc, ◌≡◌, ℕ, ◌+◌, ◌-◌, ◌<◌, ◌⊎◌, List, [], ◌∷◌, ◌++◌, drop, length, slice_get, Some, refl, sym, ap, ap₂, ◌∙◌, subst, inl, inr, arith, length-append}
use Rattle.std.proofs.Math.Seq.{drop-append_seam}
use Rattle.std.proofs.lemmas.Bool.{cases_eq}
use Rattle.std.proofs.lemmas.Option.{none-some, same_Some}
use Rattle.regress_leaves.specs.declared.test.Test.{Test}
use Rattle.regress_program.specs.Program.{Op}
use Rattle.regress_tables.specs.Repetitions.{IsRepeated}
use Rattle.regress_tables.specs.declared.repetitions.Repeated.{Repeated}
use Rattle.regress_tables.specs.declared.repetitions.Repetition.{Repetition}

-- The list has this number.
abbrev pub IsIn : List ℕ → ℕ → Type 0
IsIn xs x = (k : ℕ) × (slice_get xs k ≡ Some x)

in-front : (xs ys : List ℕ) (k x : ℕ) → slice_get xs k ≡ Some x → slice_get (xs ++ ys) k ≡ Some x
in-front [] ys k x is = absurd (none-some x is)
in-front (y ∷ xs) ys zero x is = is
in-front (y ∷ xs) ys (suc k) x is = in-front xs ys k x is

behind : (xs ys : List ℕ) (k : ℕ) → slice_get (xs ++ ys) (length xs + k) ≡ slice_get ys k
behind [] ys k = ap (slice_get ys) (let e : 0 + k ≡ k = omega arith in e)
behind (x ∷ xs) ys k = ap (slice_get (x ∷ (xs ++ ys))) (let e : suc (length xs) + k ≡ suc (length xs + k) = omega arith in e) ∙ behind xs ys k

pub in-either : (xs ys : List ℕ) (x : ℕ) → IsIn xs x ⊎ IsIn ys x → IsIn (xs ++ ys) x
in-either xs ys x is = elim is [
  | inl first ↦ (first.0, in-front xs ys first.0 x first.1)
  | inr second ↦ (length xs + second.0, behind xs ys second.0 ∙ second.1)
]

pushed : (xs : List ℕ) (x : ℕ) → IsIn (xs ++ x ∷ []) x
pushed xs x = in-either xs (x ∷ []) x (inr (0, refl))

kept : (xs : List ℕ) (y x : ℕ) → IsIn xs x → IsIn (xs ++ y ∷ []) x
kept xs y x is = in-either xs (y ∷ []) x (inl is)

module _ (far xs ys : List ℕ) (n p : ℕ) (at : slice_get far n ≡ Some p)
    (so_far : (k x : ℕ) → k < n → slice_get far k ≡ Some x → IsIn xs x ⊎ IsIn ys x) where
  -- One more is put into the first list, or into the second.
  pub first-more : (k x : ℕ) → k < n + 1 → slice_get far k ≡ Some x → IsIn (xs ++ p ∷ []) x ⊎ IsIn ys x
  first-more k x lt is = elim (cases_eq k n) [
    | inl last ↦ inl (subst (IsIn (xs ++ p ∷ [])) (same_Some p x (sym at ∙ ap (slice_get far) (sym last) ∙ is)) (pushed xs p))
    | inr before ↦ elim (so_far k x (omega (arith, lt, before)) is) [
      | inl first ↦ inl (kept xs p x first)
      | inr second ↦ inr second
    ]
  ]

  pub second-more : (k x : ℕ) → k < n + 1 → slice_get far k ≡ Some x → IsIn xs x ⊎ IsIn (ys ++ p ∷ []) x
  second-more k x lt is = elim (cases_eq k n) [
    | inl last ↦ inr (subst (IsIn (ys ++ p ∷ [])) (same_Some p x (sym at ∙ ap (slice_get far) (sym last) ∙ is)) (pushed ys p))
    | inr before ↦ elim (so_far k x (omega (arith, lt, before)) is) [
      | inl first ↦ inl first
      | inr second ↦ inr (kept ys p x second)
    ]
  ]

-- the second list, as the last part of both
pub last-part : (xs ys all : List ℕ) (n : ℕ) → all ≡ xs ++ ys → n ≡ length ys → drop (length all - n) all ≡ ys
last-part xs ys all n is count =
    let e : length all - n ≡ length xs = omega (arith, ap length is, length-append xs ys, count) in
    ap₂ drop e is ∙ drop-append_seam xs ys

-- ---- what instructions match

module _ (leaves : List Test) (ops : List Op) (distinct : List Repetition) where
  -- An instruction matches the same repetition while others are added.
  pub repeated-kept : (before : List Repetition) → ((k : ℕ) (r : Repetition) → slice_get before k ≡ Some r → slice_get distinct k ≡ Some r) →
      (pc : ℕ) (repeated : Repeated) → IsRepeated leaves ops before pc repeated → IsRepeated leaves ops distinct pc repeated
  repeated-kept before more pc repeated is = record {
    repetition = is.repetition;
    at = more repeated.repetition is.repetition is.at;
    matches = is.matches;
    next = is.next;
  }

  pub repeated-more : (pcs : List ℕ) (uses : List Repeated) (p : ℕ) (r : Repeated) → length uses ≡ length pcs →
      ((k pc : ℕ) (repeated : Repeated) → slice_get pcs k ≡ Some pc → slice_get uses k ≡ Some repeated → IsRepeated leaves ops distinct pc repeated) →
      IsRepeated leaves ops distinct p r →
      (k pc : ℕ) (repeated : Repeated) → slice_get (pcs ++ p ∷ []) k ≡ Some pc → slice_get (uses ++ r ∷ []) k ≡ Some repeated →
      IsRepeated leaves ops distinct pc repeated
  repeated-more [] [] p r count so_far is zero pc repeated here used =
      subst (λ x. IsRepeated leaves ops distinct x repeated) (same_Some p pc here)
      (subst (IsRepeated leaves ops distinct p) (same_Some r repeated used) is)
  repeated-more [] [] p r count so_far is (suc k) pc repeated here used = absurd (none-some pc here)
  repeated-more [] (u ∷ uses) p r count so_far is k pc repeated here used = absurd (omega (arith, count))
  repeated-more (x ∷ pcs) [] p r count so_far is k pc repeated here used = absurd (omega (arith, count))
  repeated-more (x ∷ pcs) (u ∷ uses) p r count so_far is zero pc repeated here used = so_far 0 pc repeated here used
  repeated-more (x ∷ pcs) (u ∷ uses) p r count so_far is (suc k) pc repeated here used =
      repeated-more pcs uses p r (omega (arith, count)) (λ j pc' rep at used'. so_far (suc j) pc' rep at used') is k pc repeated here used
