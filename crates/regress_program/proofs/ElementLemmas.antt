-- Elements of lists.
use Rattle.std.proofs.Common.{◌≡◌, ℕ, zero, suc, ◌+◌, ◌<◌, List, [], ◌∷◌, ◌++◌, length, take, drop, map, slice_get, Some, option_map, refl, ap, ◌∙◌, arith, not-suc-le-zero, le_of_suc-le-suc}
use Rattle.std.proofs.lemmas.Option.{slice_get-map}

module _ {X : Type 0} where
  pub get-append-past : (xs ys : List X) (i j : ℕ) → i ≡ length xs + j → slice_get (xs ++ ys) i ≡ slice_get ys j
  get-append-past [] ys i j e = let same : i ≡ j = omega (arith, e) in ap (slice_get ys) same
  get-append-past (x ∷ xs) ys zero j e = absurd (omega (arith, e))
  get-append-past (x ∷ xs) ys (suc i) j e = get-append-past xs ys i j (omega (arith, e))

  pub get-take : (n : ℕ) (xs : List X) (i : ℕ) → i < n → slice_get (take n xs) i ≡ slice_get xs i
  get-take zero xs i lt = absurd (not-suc-le-zero lt)
  get-take (suc n) [] i lt = refl
  get-take (suc n) (x ∷ xs) zero lt = refl
  get-take (suc n) (x ∷ xs) (suc i) lt = get-take n xs i (le_of_suc-le-suc lt)

  pub get-drop : (n : ℕ) (xs : List X) (i j : ℕ) → j ≡ n + i → slice_get (drop n xs) i ≡ slice_get xs j
  get-drop zero xs i j e = let same : i ≡ j = omega (arith, e) in ap (slice_get xs) same
  get-drop (suc n) [] i j e = refl
  get-drop (suc n) (x ∷ xs) i zero e = absurd (omega (arith, e))
  get-drop (suc n) (x ∷ xs) i (suc j) e = get-drop n xs i j (omega (arith, e))

-- an element of a list to which a function is applied
pub get-map : {X : Type 0} {Y : Type 0} (f : X → Y) (xs : List X) (i : ℕ) (x : X) → slice_get xs i ≡ Some x → slice_get (map f xs) i ≡ Some (f x)
get-map f xs i x is = slice_get-map f xs i ∙ ap (option_map f) is
