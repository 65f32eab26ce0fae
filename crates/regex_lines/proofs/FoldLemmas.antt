-- Items that change nothing, and items one after another.
use Rattle.std.proofs.Common.{◌∙◌, ℕ, ◌+◌, ◌<◌, List, [], ◌∷◌, ◌++◌, length, map, take, get_or, ap, refl, sym, subst}
use Rattle.std.specs.List.{FoldsTo}
use Rattle.std.proofs.lemmas.Fn.{FoldsTo-push}
use Rattle.std.proofs.lemmas.List.{map-append, take_more}

-- items after the others, each of which may leave what is reached as it is
pub stays : {P A : Type 0} (R : P → A → P → Type 0) (p q : P) (xs ys : List A) → ((y : A) → R q y q) → FoldsTo R p xs q → FoldsTo R p (xs ++ ys) q
stays R p q [] [] same steps = steps
stays R p q [] (y ∷ ys) same steps = (q, subst (λ j. R j y q) (sym steps) (same y), stays R q q [] ys same refl)
stays R p q (x ∷ xs) ys same steps = (steps.0, steps.1, stays R steps.0 q xs ys same steps.2)

module _ {P A B : Type 0} (R : P → A → P → Type 0) (f : B → A) (xs : List B) (i : ℕ) (p q : P) (steps : FoldsTo R p (map f (take i xs)) q) where
  -- one item further, where f makes an item of each element
  pub one_further : (x : B) (q' : P) → i < length xs → R q (f (get_or xs i x)) q' → FoldsTo R p (map f (take (i + 1) xs)) q'
  one_further x q' within next =
      subst (λ some. FoldsTo R p some q') (sym (ap (map f) (take_more xs i x within) ∙ map-append f (take i xs) (get_or xs i x ∷ [])))
      (FoldsTo-push R p (map f (take i xs)) q (f (get_or xs i x)) q' steps next)
