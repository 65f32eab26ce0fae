-- Lists to which an element is added.
use Rattle.std.proofs.Common.{◌≡◌, ℕ, zero, suc, List, [], ◌∷◌, ◌++◌, length, slice_get, Some, subst}

-- what holds of each element with its index, and of one more
pub pushed : {X : Type 0} (P : ℕ → X → Type 0) (xs : List X) (y : X) → ((i : ℕ) (x : X) → slice_get xs i ≡ Some x → P i x) → P (length xs) y →
    (i : ℕ) (x : X) → slice_get (xs ++ y ∷ []) i ≡ Some x → P i x
pushed P [] y all last zero x is = let same : y ≡ x = cc in subst (P zero) same last
pushed P [] y all last (suc i) x is = let bad : ⊥ = cc in absurd bad
pushed P (z ∷ xs) y all last zero x is = all zero x is
pushed P (z ∷ xs) y all last (suc i) x is = pushed (λ k v. P (suc k) v) xs y (λ k v h. all (suc k) v h) last i x is
