-- Lists of truth values by number.
use Rattle.std.proofs.Common.{◌≡◌, ℕ, zero, suc, ◌<◌, Bool, true, false, ◌||◌, ◌==◌, List, [], ◌∷◌, ◌++◌, length, get_or, set, refl, sym, ap, ◌∙◌}
use Rattle.std.proofs.Math.Bool.{or-false}
use Rattle.std.proofs.lemmas.Bool.{false≢true, eqb-true, eq-eqb}
use Rattle.std.proofs.lemmas.List.{get_or-set_same, get_or-set_other}

-- The value after the end is `false`.
pub pushed_same : (xs : List Bool) (n : ℕ) → get_or (xs ++ false ∷ []) n false ≡ get_or xs n false
pushed_same [] zero = refl
pushed_same [] (suc n) = refl
pushed_same (x ∷ xs) zero = refl
pushed_same (x ∷ xs) (suc n) = pushed_same xs n

or-true : (b : Bool) → (b || true) ≡ true
or-true true = refl
or-true false = refl

-- One number more is marked.
pub marked : (xs : List Bool) (k n : ℕ) → k < length xs → get_or (set xs k true) n false ≡ (get_or xs n false || k == n)
marked xs k n within = by (k == n) refl
  where
    by : (b : Bool) → (k == n) ≡ b → get_or (set xs k true) n false ≡ (get_or xs n false || b)
    by true e =
        ap (λ (m : ℕ). get_or (set xs k true) m false) (sym (eqb-true k n e)) ∙ get_or-set_same xs k true false within
        ∙ sym (or-true (get_or xs n false))
    by false e =
        get_or-set_other xs k n true false (λ same. false≢true (sym e ∙ eq-eqb k n (sym same)))
        ∙ sym (or-false (get_or xs n false))
