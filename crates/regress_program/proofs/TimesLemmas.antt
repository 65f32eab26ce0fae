-- Lists whose last elements have been added again, changed.
use Rattle.std.proofs.Common.{◌≡◌, ℕ, zero, suc, ◌+◌, ◌-◌, ◌*◌, ◌≤◌, ◌<◌, List, [], ◌∷◌, ◌++◌, length, drop, map, slice_get, Some, refl, sym, ap, ◌∙◌, arith}
use Rattle.std.proofs.lemmas.List.{length-append, length-drop, length-map}
use Rattle.std.proofs.lemmas.Option.{slice_get_within}
use Rattle.regress_program.proofs.CodeLemmas.{get-append-below}
use Rattle.regress_program.proofs.ElementLemmas.{get-append-past, get-drop, get-map}
use Rattle.regress_program.specs.Copies.{again, times}

module _ {X : Type 0} (move : X → X) where
  -- an element changed n times
  abbrev pub changed : (n : ℕ) → X → X
  changed zero x = x
  changed (suc n) x = changed n (move x)

  pub again-length : (width : ℕ) (xs : List X) → width ≤ length xs → length (again move width xs) ≡ length xs + width
  again-length width xs le =
      length-append xs (map move (drop (length xs - width) xs))
      ∙ omega (arith, length-map (drop (length xs - width) xs) move, length-drop (length xs - width) xs, le)

  pub times-length : (width count : ℕ) (xs : List X) → width ≤ length xs → length (times move width count xs) ≡ length xs + count * width
  times-length width zero xs le = omega arith
  times-length width (suc count) xs le =
      let len = again-length width xs le in
      let more : (count + 1) * width ≡ count * width + width = omega arith in
      times-length width count (again move width xs) (omega (arith, len)) ∙ omega (arith, len, more)

  pub times-below : (width count : ℕ) (xs : List X) (i : ℕ) → width ≤ length xs → i < length xs → slice_get (times move width count xs) i ≡ slice_get xs i
  times-below width zero xs i le lt = refl
  times-below width (suc count) xs i le lt =
      let len = again-length width xs le in
      times-below width count (again move width xs) i (omega (arith, len)) (omega (arith, len, lt))
      ∙ get-append-below xs (map move (drop (length xs - width) xs)) i lt

  pub again-get : (width : ℕ) (xs : List X) (j : ℕ) (x : X) → width ≤ length xs → length xs ≤ j + width → slice_get xs j ≡ Some x →
      slice_get (again move width xs) (j + width) ≡ Some (move x)
  again-get width xs j x le low found =
      let last = drop (length xs - width) xs in
      let at : ℕ = j + width - length xs in
      get-append-past xs (map move last) (j + width) at (omega (arith, low))
      ∙ get-map move last at x (get-drop (length xs - width) xs at j (omega (arith, low, le)) ∙ found)

  -- An element of the n-th copy is that of the original, changed n times.
  pub times-get : (width count n : ℕ) (xs : List X) (j : ℕ) (x : X) → width ≤ length xs → n ≤ count → length xs ≤ j + width → slice_get xs j ≡ Some x →
      slice_get (times move width count xs) (j + n * width) ≡ Some (changed n x)
  times-get width count zero xs j x le few low found =
      let here : j + 0 * width ≡ j = omega arith in
      ap (slice_get (times move width count xs)) here ∙ times-below width count xs j le (slice_get_within xs j x found) ∙ found
  times-get width zero (suc n) xs j x le few low found = absurd (omega (arith, few))
  times-get width (suc count) (suc n) xs j x le few low found =
      let len = again-length width xs le in
      let there : j + suc n * width ≡ j + width + n * width = (let more : (n + 1) * width ≡ n * width + width = omega arith in omega (arith, more)) in
      ap (slice_get (times move width (suc count) xs)) there
      ∙ times-get width count n (again move width xs) (j + width) (move x) (omega (arith, len)) (omega (arith, few)) (omega (arith, len, low))
      (again-get width xs j x le low found)

-- ---- folds that do not tell the copies from the originals

module _ {X : Type 0} {V : Type 0} (value : X → V) (join : V → V → V) where
  -- the values of a list, joined to another value
  abbrev pub joined : List X → V → V
  joined [] v = v
  joined (x ∷ xs) v = join (value x) (joined xs v)

  pub joined-append : (xs ys : List X) (v : V) → joined (xs ++ ys) v ≡ joined xs (joined ys v)
  joined-append [] ys v = refl
  joined-append (x ∷ xs) ys v = ap (join (value x)) (joined-append xs ys v)

  pub joined-map : (move : X → X) → ((x : X) → value (move x) ≡ value x) → (xs : List X) (v : V) → joined (map move xs) v ≡ joined xs v
  joined-map move same [] v = refl
  joined-map move same (x ∷ xs) v = ap (λ y. join y (joined (map move xs) v)) (same x) ∙ ap (join (value x)) (joined-map move same xs v)

  module _ (swap : (a b v : V) → join a (join b v) ≡ join b (join a v)) (twice : (a v : V) → join a (join a v) ≡ join a v) where
    joined-swap : (a : V) (xs : List X) (v : V) → joined xs (join a v) ≡ join a (joined xs v)
    joined-swap a [] v = refl
    joined-swap a (x ∷ xs) v = ap (join (value x)) (joined-swap a xs v) ∙ swap (value x) a (joined xs v)

    joined-twice : (xs : List X) (v : V) → joined xs (joined xs v) ≡ joined xs v
    joined-twice [] v = refl
    joined-twice (x ∷ xs) v =
        ap (join (value x)) (joined-swap (value x) xs (joined xs v)) ∙ twice (value x) (joined xs (joined xs v)) ∙ ap (join (value x)) (joined-twice xs v)

    joined-drop : (n : ℕ) (xs : List X) (v : V) → joined xs (joined (drop n xs) v) ≡ joined xs v
    joined-drop zero xs v = joined-twice xs v
    joined-drop (suc n) [] v = refl
    joined-drop (suc n) (x ∷ xs) v = ap (join (value x)) (joined-drop n xs v)

    pub joined-times : (move : X → X) → ((x : X) → value (move x) ≡ value x) → (width count : ℕ) (xs : List X) (v : V) →
        joined (times move width count xs) v ≡ joined xs v
    joined-times move same width zero xs v = refl
    joined-times move same width (suc count) xs v =
        let last = drop (length xs - width) xs in
        joined-times move same width count (again move width xs) v
        ∙ joined-append xs (map move last) v ∙ ap (joined xs) (joined-map move same last v) ∙ joined-drop (length xs - width) xs v

module _ {X : Type 0} {Y : Type 0} (f : X → Y) (move : X → X) (move' : Y → Y) (same : (x : X) → f (move x) ≡ move' (f x)) where
  map-drop : (n : ℕ) (xs : List X) → map f (drop n xs) ≡ drop n (map f xs)
  map-drop zero xs = refl
  map-drop (suc n) [] = refl
  map-drop (suc n) (x ∷ xs) = map-drop n xs

  map-append : (xs ys : List X) → map f (xs ++ ys) ≡ map f xs ++ map f ys
  map-append [] ys = refl
  map-append (x ∷ xs) ys = ap (λ zs. f x ∷ zs) (map-append xs ys)

  map-move : (xs : List X) → map f (map move xs) ≡ map move' (map f xs)
  map-move [] = refl
  map-move (x ∷ xs) = ap (λ y. y ∷ map f (map move xs)) (same x) ∙ ap (λ zs. move' (f x) ∷ zs) (map-move xs)

  pub map-again : (width : ℕ) (xs : List X) → map f (again move width xs) ≡ again move' width (map f xs)
  map-again width xs =
      map-append xs (map move (drop (length xs - width) xs))
      ∙ ap (λ zs. map f xs ++ zs) (map-move (drop (length xs - width) xs) ∙ ap (map move') (map-drop (length xs - width) xs))
      ∙ ap (λ k. map f xs ++ map move' (drop (k - width) (map f xs))) (sym (length-map xs f))

  pub map-times : (width count : ℕ) (xs : List X) → map f (times move width count xs) ≡ times move' width count (map f xs)
  map-times width zero xs = refl
  map-times width (suc count) xs = map-times width count (again move width xs) ∙ ap (times move' width count) (map-again width xs)
