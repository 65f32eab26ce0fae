-- What is known of one instruction, by what is known of all.
use Rattle.std.proofs.Common.{◌≡◌, ℕ, zero, suc, Bool, true, false, not, ◌&&◌, ◌||◌, List, [], ◌∷◌, ◌+◌, take, slice_get, Option, Some, None, refl, sym, ap, subst, ◌∙◌, arith}
use Rattle.std.specs.List.{list_all, list_any}
use Rattle.regress_program.specs.Linear.{is_back_reference}
use Rattle.regress_program.specs.Program.{Op, Routine}
use Rattle.regress_leaves.specs.declared.test.Test.{Test}
use Rattle.regress_program.specs.Shape.{Fits}
use Rattle.regress_program.specs.Tidy.{has_no_back_reference}
use Rattle.regress_program.specs.Views.{characters_of, part_of}

and_true : (a b : Bool) → (a && b) ≡ true → (a ≡ true) × (b ≡ true)
and_true true b is = (refl, is)
and_true false b is = cc

or_false : (a b : Bool) → (a || b) ≡ false → (a ≡ false) × (b ≡ false)
or_false true b is = cc
or_false false b is = (refl, is)

pub list_all-get : {X : Type 0} (p : X → Bool) (xs : List X) (i : ℕ) (x : X) → list_all p xs ≡ true → slice_get xs i ≡ Some x → p x ≡ true
list_all-get p [] i x all is = cc
list_all-get p (y ∷ ys) zero x all is = let same : y ≡ x = cc in sym (ap p same) ∙ (and_true (p y) (list_all p ys) all).0
list_all-get p (y ∷ ys) (suc i) x all is = list_all-get p ys i x (and_true (p y) (list_all p ys) all).1 is

not_false : (b : Bool) → not b ≡ true → b ≡ false
not_false true is = cc
not_false false is = refl

-- No instruction of a program without back references is one.
pub no_reference-at : (program : List Routine) (i : ℕ) (r : Routine) (pc : ℕ) (op : Op) → has_no_back_reference program ≡ true → slice_get program i ≡ Some r →
    slice_get r.ops pc ≡ Some op → is_back_reference op ≡ false
no_reference-at program i r pc op none is_r is_op =
    not_false (is_back_reference op)
    (list_all-get (λ o. not (is_back_reference o)) r.ops pc op (list_all-get (λ (q : Routine). list_all (λ o. not (is_back_reference o)) q.ops) program i r none is_r) is_op)

-- An instruction of a program names a leaf of it.
module _ (earlier : List Routine) (high i : ℕ) (o : Option Test) (next : ℕ) (none : o ≡ None) where
  pub leaf-named : Fits earlier high i (part_of o next) → ⊥
  leaf-named fits = (subst (λ x. Fits earlier high i (part_of x next)) none fits).0

  pub characters-named : (count : ℕ) → Fits earlier high i (characters_of o count next) → ⊥
  characters-named count fits =
      let both = subst (λ x. Fits earlier high i (characters_of x count next)) none fits in
      let wrong : false ≡ true = both.0.1 in
      cc

-- ---- one more instruction or routine

true_or : (a b : Bool) → b ≡ true → (a || b) ≡ true
true_or true b is = refl
true_or false b is = is

any-suc : {X : Type 0} (p : X → Bool) (xs : List X) (i : ℕ) (x : X) → slice_get xs i ≡ Some x → list_any p (take i xs) ≡ false → p x ≡ false →
    list_any p (take (suc i) xs) ≡ false
any-suc p [] i x is none here = refl
any-suc p (y ∷ ys) zero x is none here = let same : y ≡ x = cc in ap (λ b. b || false) (ap p same ∙ here)
any-suc p (y ∷ ys) (suc i) x is none here =
    let both = or_false (p y) (list_any p (take i ys)) none in
    ap (λ b. b || list_any p (take (suc i) ys)) both.0 ∙ any-suc p ys i x is both.1 here

pub any-more : {X : Type 0} (p : X → Bool) (xs : List X) (i : ℕ) (x : X) → slice_get xs i ≡ Some x → list_any p (take i xs) ≡ false → p x ≡ false →
    list_any p (take (i + 1) xs) ≡ false
any-more p xs i x is none here = let e : i + 1 ≡ suc i = omega arith in subst (λ k. list_any p (take k xs) ≡ false) (sym e) (any-suc p xs i x is none here)

pub any-at : {X : Type 0} (p : X → Bool) (xs : List X) (i : ℕ) (x : X) → slice_get xs i ≡ Some x → p x ≡ true → list_any p xs ≡ true
any-at p [] i x is here = cc
any-at p (y ∷ ys) zero x is here = let same : y ≡ x = cc in ap (λ b. b || list_any p ys) (ap p same ∙ here)
any-at p (y ∷ ys) (suc i) x is here = true_or (p y) (list_any p ys) (any-at p ys i x is here)
