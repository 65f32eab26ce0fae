-- Lemmas on pairs of a string and its index.
use Rattle.std.proofs.Common.{◌≡◌, ℕ, ◌<◌, ◌≤◌, true, false, List, [], ◌∷◌, inl, inr, length, refl, sym, ap, subst, ◌∙◌, arith, not-suc-le-zero}
use Rattle.std.specs.Borrow.{Bor}
use Rattle.std.specs.List.{slice_index, slice_index_or, All}
use Rattle.std.specs.List.Sorted.{IsPermutation, IsSorted}
use Rattle.std.specs.Cmp.Lexicographic.{slice_cmp}
use Rattle.std.specs.Cmp.{IsTotalOrder}
use Rattle.std.specs.Ordering.{nat_cmp, ordering_then, ordering_reverse, is_lt, is_gt}
use Rattle.std.specs.declared.cmp.Ordering.{Ordering}
use Rattle.std.specs.declared.cmp.Ordering.TheVariants.{Less, Equal, Greater}
use Rattle.std.proofs.lemmas.Bool.{lt-ltb, cases_lt}
use Rattle.std.proofs.lemmas.Cmp.{nat_list_cmp_total, nat_cmp_total, then_total, on_total, tied_itself}
use Rattle.std.proofs.lemmas.List.Elements.{Contains-get_or}
use Rattle.std.proofs.lemmas.List.Sorted.{All-permutation, Contains-permutation, ranks_by, sorted_far}
use Rattle.regress_strings.specs.Order.{is_after, string_at, IsOrder}
use Rattle.regress_strings.specs.Pairs.{ArePairs}

abbrev Pair : Type 0
Pair = Bor (List ℕ) × ℕ

-- pairs by their strings, and those of equal strings by their indices
abbrev pair_cmp : Pair → Pair → Ordering
pair_cmp x y = ordering_then (slice_cmp nat_cmp x.0.now y.0.now) (nat_cmp x.1 y.1)

pair_cmp-total : IsTotalOrder pair_cmp
pair_cmp-total = then_total (on_total (λ (p : Pair). p.0.now) nat_list_cmp_total) (on_total (λ (p : Pair). p.1) nat_cmp_total)

-- ---- what an order says

first-not-less : (a b : Ordering) → is_lt (ordering_then a b) ≡ false → is_lt a ≡ false
first-not-less Less b h = h
first-not-less Equal b h = refl
first-not-less Greater b h = refl

second-not-less : (a b : Ordering) → a ≡ Equal → is_lt (ordering_then a b) ≡ false → is_lt b ≡ false
second-not-less Less b same h = absurd cc
second-not-less Equal b same h = h
second-not-less Greater b same h = absurd cc

reversed : (o : Ordering) → is_gt (ordering_reverse o) ≡ is_lt o
reversed Less = refl
reversed Equal = refl
reversed Greater = refl

not_after-from : (string other : List ℕ) → is_lt (slice_cmp nat_cmp other string) ≡ false → is_after string other ≡ false
not_after-from string other h = ap is_gt (nat_list_cmp_total.antisymm string other) ∙ (reversed (slice_cmp nat_cmp other string) ∙ h)

not-less : (m n : ℕ) → is_lt (nat_cmp m n) ≡ false → n ≤ m
not-less m n h = elim (cases_lt m n) [
  | inl lt ↦ absurd (let less : is_lt (nat_cmp m n) ≡ true = rw (lt-ltb m n lt) refl in cc)
  | inr ge ↦ ge
]

-- ---- sorted pairs

some-element : {X : Type 0} (xs : List X) (i : ℕ) → i < length xs → X
some-element [] i lt = absurd (not-suc-le-zero lt)
some-element (x ∷ xs) i lt = x

IsPairOf : (strings : List (List ℕ)) → Pair → Type 0
IsPairOf strings p = (p.1 < length strings) × (p.0.now ≡ slice_index_or strings p.1 [])

module _ (strings : List (List ℕ)) (pairs sorted : List Pair) (indices : List ℕ) (are : ArePairs strings pairs) (moved : IsPermutation pairs sorted)
    (up : IsSorted pair_cmp sorted) (count : length indices ≡ length sorted)
    (index : (k : ℕ) (pair : Pair) → k < length indices → slice_index indices k ≡ (slice_index_or sorted k pair).1) where
  -- any pair
  pair-at : (i : ℕ) → i < length indices → Pair
  pair-at i lt = some-element sorted i (omega (arith, count))

  pair-of : (k : ℕ) → k < length strings → Pair
  pair-of k lt = slice_index_or pairs k (some-element pairs k (omega (arith, are.count)))

  are-pairs : All (IsPairOf strings) sorted
  unfolding IsPairOf
  are-pairs = All-permutation (IsPairOf strings) pairs sorted moved (λ k pair lt.
      (rw (are.index k pair lt) (omega (arith, are.count)), are.string k pair lt ∙ ap (λ n. slice_index_or strings n []) (sym (are.index k pair lt))))

  -- the string at a place
  string-is : (i : ℕ) (pair : Pair) → i < length indices → string_at strings indices i ≡ (slice_index_or sorted i pair).0.now
  unfolding IsPairOf
  string-is i pair lt = ap (λ n. slice_index_or strings n []) (index i pair lt) ∙ sym (are-pairs i pair (omega (arith, count))).1

  ordered-pairs : (i j : ℕ) (pair : Pair) → i ≤ j → j < length indices
      → is_lt (ordering_then (slice_cmp nat_cmp (string_at strings indices j) (string_at strings indices i)) (nat_cmp (slice_index indices j) (slice_index indices i))) ≡ false
  ordered-pairs i j pair le lt =
      rw (string-is i pair (omega arith), string-is j pair lt, index i pair (omega arith), index j pair lt)
      (sorted_far (λ x y. is_lt (pair_cmp x y)) (ranks_by pair_cmp-total (λ (p : Pair). p)) sorted up i j pair le (omega (arith, count)))

  pub order-from-pairs : IsOrder strings indices
  unfolding IsPairOf pair-of
  order-from-pairs = record {
    within = λ i lt. rw (index i (pair-at i lt) lt) (are-pairs i (pair-at i lt) (omega (arith, count))).0;
    every = λ k lt none. (
        let at = Contains-permutation pairs sorted (pair-of k lt) moved (Contains-get_or pairs k (some-element pairs k (omega (arith, are.count))) (omega (arith, are.count))) in
        none at.0 (omega (arith, at.1, count)) (index at.0 (pair-of k lt) (omega (arith, at.1, count)) ∙ ap (λ (p : Pair). p.1) at.2
        ∙ are.index k (some-element pairs k (omega (arith, are.count))) (omega (arith, are.count))));
    ascend = λ i j le lt. not_after-from (string_at strings indices i) (string_at strings indices j) (first-not-less _ _ (ordered-pairs i j (pair-at j lt) le lt));
    stable = λ i j le lt same. not-less (slice_index indices j) (slice_index indices i)
        (second-not-less _ _ (subst (λ s. slice_cmp nat_cmp s (string_at strings indices i) ≡ Equal) same (tied_itself nat_list_cmp_total (string_at strings indices i)))
        (ordered-pairs i j (pair-at j lt) le lt));
  }
