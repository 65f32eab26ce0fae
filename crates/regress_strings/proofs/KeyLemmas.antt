-- Lemmas on keys.
use Rattle.std.proofs.Common.{◌≡◌, ℕ, zero, suc, ◌+◌, ◌-◌, ◌*◌, ◌^◌, ◌<◌, ◌≤◌, true, false, List, [], ◌∷◌, drop, inl, inr, refl, sym, ap, ap₂, subst, ◌∙◌, arith, add-one, le_refl, pow-suc}
use Rattle.std.specs.List.{slice_index}
use Rattle.std.proofs.lemmas.Bool.{cases_Bool, cases_lt, cases_order, true_from_ne_false}
use Rattle.std.proofs.lemmas.List.{drop-drop, get_or-drop}
use Rattle.std.proofs.Math.Nat.{pow-le-pow_right}
use Rattle.std.proofs.lemmas.Cmp.{nat_list_cmp_total}
use Rattle.std.specs.Cmp.Lexicographic.{slice_cmp}
use Rattle.std.specs.Ordering.{nat_cmp, ordering_reverse, is_gt}
use Rattle.std.specs.declared.cmp.Ordering.{Ordering}
use Rattle.std.specs.declared.cmp.Ordering.TheVariants.{Less, Equal, Greater}
use Rattle.regress_strings.specs.Order.{is_after}
use Rattle.regress_strings.specs.Keys.{AreBytes, key_from, key_of}
use Rattle.regress_strings.proofs.PrefixLemmas.{after-same, after-greater}

-- ---- keys in lexicographic order

rest-bytes : (string : List ℕ) → AreBytes string → AreBytes (drop 1 string)
rest-bytes [] bytes i = bytes i
rest-bytes (x ∷ xs) bytes i = bytes (suc i)

-- a lower number is lower with whichever digits after it
key-lower : (a b n : ℕ) (string other : List ℕ) → a < b → AreBytes string → key_from a n string < key_from b n other
unfolding key_from
key-lower a b zero string other lt bytes = lt
key-lower a b (suc n) string other lt bytes =
    key-lower (a * 256 + slice_index string 0) (b * 256 + slice_index other 0) n (drop 1 string) (drop 1 other) (omega (arith, bytes 0)) (rest-bytes string bytes)

key-empty : (a n : ℕ) (other : List ℕ) → key_from a n [] ≤ key_from a n other
unfolding key_from
key-empty a zero other = le_refl a
key-empty a (suc n) other = elim (cases_lt 0 (slice_index other 0)) [
  | inl some ↦ (let lower = key-lower (a * 256 + 0) (a * 256 + slice_index other 0) n [] (drop 1 other) (omega arith) (λ i. omega arith) in omega arith)
  | inr none ↦ (let same : slice_index other 0 ≡ 0 = omega arith in rw same (key-empty (a * 256 + 0) n (drop 1 other)))
]

key-from-order : (a n : ℕ) (string other : List ℕ) → AreBytes string → is_after string other ≡ false → key_from a n string ≤ key_from a n other
unfolding key_from
key-from-order a zero string other bytes h = le_refl a
key-from-order a (suc n) [] other bytes h = key-empty a (suc n) other
key-from-order a (suc n) (x ∷ xs) [] bytes h = absurd cc
key-from-order a (suc n) (x ∷ xs) (y ∷ ys) bytes h = elim (cases_order x y) [
  | inl same ↦ (let rest = key-from-order (a * 256 + x) n xs ys (rest-bytes (x ∷ xs) bytes) (sym (after-same x y xs ys same) ∙ h) in
      subst (λ z. key_from (a * 256 + x) n xs ≤ key_from (a * 256 + z) n ys) same rest)
  | inr (inl less) ↦ (let lower = key-lower (a * 256 + x) (a * 256 + y) n xs ys (omega arith) (rest-bytes (x ∷ xs) bytes) in omega arith)
  | inr (inr more) ↦ absurd (let greater = after-greater x y xs ys more in cc)
]

key-order : (string other : List ℕ) → AreBytes string → is_after string other ≡ false → key_of string ≤ key_of other
unfolding key_of
key-order string other bytes h = key-from-order 0 8 string other bytes h

not-after-both : (o : Ordering) → is_gt o ≡ true → is_gt (ordering_reverse o) ≡ false
not-after-both Less h = absurd cc
not-after-both Equal h = absurd cc
not-after-both Greater h = refl

-- a string with a greater key comes after
pub after-by-key : (string other : List ℕ) → AreBytes string → key_of other < key_of string → is_after string other ≡ true
after-by-key string other bytes lt = true_from_ne_false (is_after string other) (λ h. (let le = key-order string other bytes h in omega arith))

-- one with a lower key does not
pub not_after-by-key : (string other : List ℕ) → AreBytes other → key_of string < key_of other → is_after string other ≡ false
not_after-by-key string other bytes lt = elim (cases_Bool (is_after string other)) [
  | inl after ↦ absurd (let le = key-order other string bytes (ap is_gt (nat_list_cmp_total.antisymm other string) ∙ not-after-both (slice_cmp nat_cmp string other) after) in omega arith)
  | inr not ↦ not
]

-- ---- the key of a string

pub key-step : (key place : ℕ) (string : List ℕ) → place < 8
    → key_from key (8 - place) (drop place string) ≡ key_from (key * 256 + slice_index string place) (8 - (place + 1)) (drop (place + 1) string)
unfolding key_from
key-step key place string lt =
    let n : ℕ = 8 - (place + 1) in
    let count : 8 - place ≡ suc n = omega arith in
    let byte : slice_index (drop place string) 0 ≡ slice_index string place = get_or-drop place string 0 0 ∙ ap (slice_index string) (omega arith) in
    ap (λ m. key_from key m (drop place string)) count ∙ ap₂ (λ b rest. key_from (key * 256 + b) n rest) byte (drop-drop 1 place string)

pub key-fits : (key place byte : ℕ) → place < 8 → key < 256 ^ place → byte < 256 → (key * 256 + byte < 256 ^ (place + 1)) × (key * 256 + byte < 2 ^ 64)
key-fits key place byte lt fits small =
    let next : 256 ^ (place + 1) ≡ 256 ^ place * 256 = rw add-one (pow-suc 256 place) in
    let some : 0 < 256 = omega arith in
    let le : place + 1 ≤ 8 = omega arith in
    let most : 256 ^ (place + 1) ≤ 256 ^ 8 = pow-le-pow_right {n = 256} some {i = place + 1} {j = 8} le in
    (omega (arith, next), omega (arith, next, most))
