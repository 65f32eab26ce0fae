-- Lemmas on prefixes and lexicographic order.
use Rattle.std.proofs.Common.{◌≡◌, ℕ, ◌<◌, true, false, List, [], ◌∷◌, inl, inr, nat_eq, refl, sym, ◌∙◌, arith}
use Rattle.std.specs.List.{starts_with}
use Rattle.std.proofs.lemmas.Bool.{and_parts, and_from, eqb-true, eq-eqb, ne_eqb, le-ltb, cases_order}
use Rattle.std.proofs.lemmas.Cmp.{nat_list_cmp_total, upto}
use Rattle.regress_strings.specs.Order.{is_after}

-- ---- the first bytes decide

pub after-same : (x y : ℕ) (xs ys : List ℕ) → x ≡ y → is_after (x ∷ xs) (y ∷ ys) ≡ is_after xs ys
after-same x y xs ys same = rw (le-ltb x y (omega arith), eq-eqb x y same) refl

pub after-greater : (x y : ℕ) (xs ys : List ℕ) → y < x → is_after (x ∷ xs) (y ∷ ys) ≡ true
after-greater x y xs ys lt = rw (le-ltb x y (omega arith), ne_eqb x y (λ e. omega arith)) refl

starts-parts : (x y : ℕ) (xs ys : List ℕ) → starts_with nat_eq (y ∷ ys) (x ∷ xs) ≡ true → (x ≡ y) × (starts_with nat_eq ys xs ≡ true)
starts-parts x y xs ys h =
    let parts = and_parts (nat_eq x y) (starts_with nat_eq ys xs) h in
    (eqb-true x y parts.0, parts.1)

starts-from : (x y : ℕ) (xs ys : List ℕ) → x ≡ y → starts_with nat_eq ys xs ≡ true → starts_with nat_eq (y ∷ ys) (x ∷ xs) ≡ true
starts-from x y xs ys same rest = and_from (nat_eq x y) (starts_with nat_eq ys xs) (eq-eqb x y same) rest

-- ---- prefixes

-- a prefix does not come after its text
pub prefix-before : (text string : List ℕ) → starts_with nat_eq text string ≡ true → is_after string text ≡ false
prefix-before [] [] h = refl
prefix-before (y ∷ ys) [] h = refl
prefix-before [] (x ∷ xs) h = absurd cc
prefix-before (y ∷ ys) (x ∷ xs) h =
    let parts = starts-parts x y xs ys h in
    after-same x y xs ys parts.0 ∙ prefix-before ys xs parts.1

-- a string that is neither before a prefix of a text nor after the text begins with that prefix
pub prefix-between : (text other string : List ℕ) → starts_with nat_eq text string ≡ true → is_after string other ≡ false → is_after other text ≡ false
    → starts_with nat_eq other string ≡ true
prefix-between text [] [] h below above = refl
prefix-between text (y ∷ ys) [] h below above = refl
prefix-between text [] (x ∷ xs) h below above = absurd cc
prefix-between [] (y ∷ ys) (x ∷ xs) h below above = absurd cc
prefix-between (z ∷ zs) (y ∷ ys) (x ∷ xs) h below above =
    let parts = starts-parts x z xs zs h in
    elim (cases_order x y) [
      | inl same ↦ starts-from x y xs ys same
          (prefix-between zs ys xs parts.1 (sym (after-same x y xs ys same) ∙ below) (sym (after-same y z ys zs (sym same ∙ parts.0)) ∙ above))
      | inr (inl less) ↦ (let greater = after-greater y z ys zs (omega (arith, parts.0)) in absurd cc)
      | inr (inr greater) ↦ (let greater = after-greater x y xs ys greater in absurd cc)
    ]

-- a prefix of a prefix is a prefix
pub prefix-prefix : (text other string : List ℕ) → starts_with nat_eq text other ≡ true → starts_with nat_eq other string ≡ true
    → starts_with nat_eq text string ≡ true
prefix-prefix [] [] [] h k = refl
prefix-prefix (z ∷ zs) [] [] h k = refl
prefix-prefix text [] (x ∷ xs) h k = absurd cc
prefix-prefix [] (y ∷ ys) string h k = absurd cc
prefix-prefix (z ∷ zs) (y ∷ ys) [] h k = refl
prefix-prefix (z ∷ zs) (y ∷ ys) (x ∷ xs) h k =
    let first = starts-parts y z ys zs h in
    let second = starts-parts x y xs ys k in
    starts-from x z xs zs (second.0 ∙ first.0) (prefix-prefix zs ys xs first.1 second.1)

-- ---- lexicographic order

pub not_after-not_after : (string other text : List ℕ) → is_after string other ≡ false → is_after other text ≡ false → is_after string text ≡ false
not_after-not_after string other text h k = upto nat_list_cmp_total string other text h k
