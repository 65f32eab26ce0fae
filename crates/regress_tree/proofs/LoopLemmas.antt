-- Lemmas about loops over a list, one element at a time.
use Rattle.std.proofs.Common.{◌≡◌, ℕ, ◌+◌, ◌-◌, ◌<◌, ◌≤◌, List, [], ◌∷◌, ◌++◌, length, get_or, take, drop, map, flat_map, Bool, arith, true, false, ◌&&◌, sym, ap, ◌∙◌}
use Rattle.std.specs.List.{list_all}
use Rattle.std.proofs.lemmas.List.{drop_more, flat_map_more, map-append, take_all, take_more}

-- The remaining list begins with the element.
pub left_is : {A : Type 0} (xs : List A) (i : ℕ) (x : A) → i < length xs → x ≡ get_or xs i x → drop i xs ≡ x ∷ drop (i + 1) xs
left_is xs i x in_list is = drop_more xs i x in_list ∙ ap (λ y. y ∷ drop (i + 1) xs) (sym is)

module _ {A B : Type 0} (f : A → B) (xs : List A) (i : ℕ) (copies : List A) (so_far : map f copies ≡ map f (take i xs)) where
  -- one more copy, which is equal to its element
  pub copied_next : (x copy : A) → i < length xs → x ≡ get_or xs i x → f copy ≡ f x → map f (copies ++ copy ∷ []) ≡ map f (take (i + 1) xs)
  copied_next x copy in_list is same =
      map-append f copies (copy ∷ [])
      ∙ ap (λ ys. ys ++ f copy ∷ []) so_far
      ∙ ap (λ y. map f (take i xs) ++ y ∷ []) (same ∙ ap f is)
      ∙ sym (map-append f (take i xs) (get_or xs i x ∷ []))
      ∙ ap (map f) (sym (take_more xs i x in_list))

  pub copied_all : length xs ≤ i → map f copies ≡ map f xs
  copied_all done = so_far ∙ ap (map f) (take_all i xs done)

-- the joined results so far, with one more
pub joined_next : {A B : Type 0} (f : A → List B) (before : List B) (xs : List A) (i : ℕ) (d : A) → i < length xs →
    (before ++ flat_map f (take i xs)) ++ f (get_or xs i d) ≡ before ++ flat_map f (take (i + 1) xs)
joined_next f before xs i d in_list =
    flat_map_more f before (take i xs) (get_or xs i d) ∙ ap (λ ys. before ++ flat_map f ys) (sym (take_more xs i d in_list))

-- Whether all elements pass a test, by the remaining ones.
module _ {A : Type 0} (p : A → Bool) (xs : List A) (i : ℕ) (d : A) (in_list : i < length xs) where
  all_left : list_all p (drop i xs) ≡ (p (get_or xs i d) && list_all p (drop (i + 1) xs))
  all_left = ap (list_all p) (drop_more xs i d in_list)

  pub all_next : p (get_or xs i d) ≡ true → list_all p (drop i xs) ≡ list_all p xs → list_all p (drop (i + 1) xs) ≡ list_all p xs
  all_next so whole = ap (λ b. b && list_all p (drop (i + 1) xs)) (sym so) ∙ sym all_left ∙ whole

  pub not_all : p (get_or xs i d) ≡ false → list_all p (drop i xs) ≡ list_all p xs → false ≡ list_all p xs
  not_all so whole = ap (λ b. b && list_all p (drop (i + 1) xs)) (sym so) ∙ sym all_left ∙ whole

-- A list is its first element and the others.
pub first_and_rest : {A : Type 0} (xs : List A) (d : A) → 1 ≤ length xs → get_or xs 0 d ∷ take (length xs - 1) (drop 1 xs) ≡ xs
first_and_rest [] d some = absurd (omega (arith, some))
first_and_rest (x ∷ xs) d some = ap (λ ys. x ∷ ys) (take_all (length (x ∷ xs) - 1) xs (omega arith))
