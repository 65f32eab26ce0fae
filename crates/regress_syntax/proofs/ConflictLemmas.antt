-- Conflicts between groups in a list that is sorted by name, where those of one name are in the order of the source.
use Rattle.std.proofs.Common.{◌≡◌, ◌≢◌, ℕ, zero, suc, ◌+◌, ◌-◌, ◌<◌, ◌≤◌, max, nat_le, ◌⊎◌, inl, inr, ⊎_elim, Bool, true, false, cond, not, ◌&&◌, List, [], ◌∷◌, map, filter, reverse, length, get_or, slice_get, Option, Some, None, IsPermutation, IsSortedBy, swap, ap₂, bytes_eq, refl, sym, ap, subst, ◌∙◌, arith}
use Rattle.std.proofs.lemmas.Bool.{false≢true, true≢false, and_parts, and_from, cases_eq, cases_lt, not_from_false, not_from_true, false_from_ne_true}
use Rattle.std.proofs.lemmas.Bool.Decides.{nat_tests}
use Rattle.std.proofs.lemmas.Cmp.{nat_list_cmp_total}
use Rattle.std.proofs.lemmas.Map.Text.{is_eq-slice_cmp}
use Rattle.std.proofs.lemmas.Option.{none-some, same_Some, cond_some}
use Rattle.std.proofs.lemmas.Slice.Eq.{bytes_eq-Decides}
use Rattle.std.proofs.lemmas.List.Edits.{Swapped, swapped_from_swap, length-swap}
use Rattle.std.proofs.lemmas.List.Elements.{All-head, All-tail}
use Rattle.std.proofs.lemmas.List.Folds.{list_all-map}
use Rattle.std.proofs.lemmas.List.Kept.{AllPairs-filter}
use Rattle.std.proofs.lemmas.List.Sorted.{sorted_far, IsPermutation-keeps, IsPermutation-sym, ranks_by}
use Rattle.std.proofs.lemmas.List.Sums.{AllPass-from_list_all, list_all-from_AllPass}
use Rattle.std.specs.Cmp.Lexicographic.{slice_cmp}
use Rattle.std.specs.List.{All, AllPairs, list_all}
use Rattle.std.specs.List.Sorted.{IsStableBy, ties}
use Rattle.std.specs.Ordering.{nat_cmp, is_lt, is_eq, ordering_reverse}
use Rattle.std.specs.declared.cmp.Ordering.{Ordering}
use Rattle.std.specs.declared.cmp.Ordering.TheVariants.{Less, Equal, Greater}
use Rattle.regress_syntax.specs.SameNames.{same_name}
use Rattle.regress_syntax.specs.Paths.{Path, CaptureAt, are_alternatives, conflict, are_apart}
use Rattle.regress_syntax.specs.Scanning.{capture_of, path_of, is_before, is_from, greatest, conflict_with_next, first_conflict}
use Rattle.regress_syntax.specs.declared.scan.scanner.NamedGroup.{NamedGroup}
use Rattle.regress_syntax.proofs.NumberingLemmas.{ties_by_name}
use Rattle.regress_syntax.proofs.OrderLemmas.{IsBefore, alternatives_through}

-- ---- conflicts in both directions

are_alternatives-sym : (p q : Path) → are_alternatives p q ≡ are_alternatives q p
are_alternatives-sym [] [] = refl
are_alternatives-sym [] (j ∷ q) = refl
are_alternatives-sym (k ∷ p) [] = refl
are_alternatives-sym (k ∷ p) (j ∷ q) = let e = are_alternatives-sym p q in grind (arith, nat_tests)

pub bytes_eq-sym : (a b : List ℕ) → bytes_eq a b ≡ true → bytes_eq b a ≡ true
bytes_eq-sym a b e = (bytes_eq-Decides b a).1 (sym ((bytes_eq-Decides a b).0 e))

same_name-sym : (a b : Option (List ℕ)) → same_name a b ≡ true → same_name b a ≡ true
same_name-sym None b e = absurd (false≢true e)
same_name-sym (Some a) None e = absurd (false≢true e)
same_name-sym (Some a) (Some b) e = bytes_eq-sym b a e

conflict-sym : (a b : CaptureAt) → conflict a b ≡ true → conflict b a ≡ true
conflict-sym a b e =
    let parts = and_parts (same_name a.name b.name) _ e in
    and_from _ _ (same_name-sym a.name b.name parts.0) (ap not (are_alternatives-sym (reverse b.path) (reverse a.path)) ∙ parts.1)

-- ---- lists in which no two elements conflict

abbrev NoTwo : {X : Type 0} → (X → X → Bool) → List X → Type 0
NoTwo {X} r xs = (i j : ℕ) (d : X) → i ≢ j → i < length xs → j < length xs → r (get_or xs i d) (get_or xs j d) ≡ false

abbrev apart : {X : Type 0} → (X → X → Bool) → List X → Bool
apart r [] = true
apart r (x ∷ xs) = list_all (λ y. not (r x y)) xs && apart r xs

module _ {X : Type 0} (r : X → X → Bool) (both_ways : (x y : X) → r x y ≡ true → r y x ≡ true) where
  other_way : (x y : X) → r x y ≡ false → r y x ≡ false
  other_way x y e = false_from_ne_true _ (λ h. true≢false (sym (both_ways y x h) ∙ e))

  apart_from_no_two : (xs : List X) → NoTwo r xs → apart r xs ≡ true
  apart_from_no_two [] h = refl
  apart_from_no_two (x ∷ xs) h =
      and_from _ _
      (list_all-from_AllPass _ xs (λ k d l. not_from_false _ (h 0 (suc k) d (omega arith) (omega arith) (omega arith))))
      (apart_from_no_two xs (λ i j d ne l m. h (suc i) (suc j) d (λ e. ne (omega arith)) (omega arith) (omega arith)))

  not_first : (x : X) (xs : List X) → list_all (λ y. not (r x y)) xs ≡ true → (k : ℕ) (d : X) → k < length xs → r x (get_or xs k d) ≡ false
  not_first x xs e k d l =
      let passes = AllPass-from_list_all (λ y. not (r x y)) xs e in
      false_from_ne_true _ (λ h. true≢false (sym (passes k d l) ∙ not_from_true _ h))

  no_two_from_apart : (xs : List X) → apart r xs ≡ true → NoTwo r xs
  no_two_from_apart [] e i j d ne l m = absurd (omega arith)
  no_two_from_apart (x ∷ xs) e zero zero d ne l m = absurd (ne refl)
  no_two_from_apart (x ∷ xs) e zero (suc j) d ne l m = not_first x xs (and_parts _ _ e).0 j d (omega arith)
  no_two_from_apart (x ∷ xs) e (suc i) zero d ne l m = other_way _ _ (not_first x xs (and_parts _ _ e).0 i d (omega arith))
  no_two_from_apart (x ∷ xs) e (suc i) (suc j) d ne l m =
      no_two_from_apart xs (and_parts _ _ e).1 i j d (λ same. ne (ap suc same)) (omega arith) (omega arith)

  -- the index of an element before a swap
  came_from : (f g : ℕ → X) (a b i : ℕ) → Swapped f g a b →
      ((i ≡ a) × (g i ≡ f b)) ⊎ (((i ≡ b) × (g i ≡ f a)) ⊎ ((i ≢ a) × (i ≢ b) × (g i ≡ f i)))
  came_from f g a b i s =
      ⊎_elim (λ (e : i ≡ a). inl (e, ap g e ∙ s.0))
      (λ (ne : i ≢ a). inr (⊎_elim (λ (e : i ≡ b). inl (e, ap g e ∙ s.1)) (λ (ne' : i ≢ b). inr (ne, ne', s.2 i ne ne')) (cases_eq i b)))
      (cases_eq i a)

  no_two_swapped : (xs : List X) (a b : ℕ) → a < length xs → b < length xs → NoTwo r xs → NoTwo r (swap xs a b)
  no_two_swapped xs a b la lb h i j d ne l m =
      let s = swapped_from_swap xs (swap xs a b) a b d la lb refl in
      let li : i < length xs = omega (arith, length-swap xs a b) in
      let lj : j < length xs = omega (arith, length-swap xs a b) in
      let f = λ (k : ℕ). get_or xs k d in
      let g = λ (k : ℕ). get_or (swap xs a b) k d in
      elim (came_from f g a b i s) [
        | inl p ↦ elim (came_from f g a b j s) [
          | inl q ↦ absurd (ne (p.0 ∙ sym q.0))
          | inr q ↦ elim q [
            | inl q ↦ rw (p.1, q.1) (h b a d (λ e. ne (p.0 ∙ sym e ∙ sym q.0)) lb la)
            | inr q ↦ rw (p.1, q.2) (h b j d (λ e. q.1 (sym e)) lb lj)
          ]
        ]
        | inr p ↦ elim p [
          | inl p ↦ elim (came_from f g a b j s) [
            | inl q ↦ rw (p.1, q.1) (h a b d (λ e. ne (p.0 ∙ sym e ∙ sym q.0)) la lb)
            | inr q ↦ elim q [
              | inl q ↦ absurd (ne (p.0 ∙ sym q.0))
              | inr q ↦ rw (p.1, q.2) (h a j d (λ e. q.0 (sym e)) la lj)
            ]
          ]
          | inr p ↦ elim (came_from f g a b j s) [
            | inl q ↦ rw (p.2, q.1) (h i b d p.1 li lb)
            | inr q ↦ elim q [
              | inl q ↦ rw (p.2, q.1) (h i a d p.0 li la)
              | inr q ↦ rw (p.2, q.2) (h i j d ne li lj)
            ]
          ]
        ]
      ]

  pub apart_shuffled : (xs ys : List X) → IsPermutation xs ys → apart r xs ≡ true → apart r ys ≡ true
  apart_shuffled xs ys s e =
      apart_from_no_two ys (IsPermutation-keeps xs (NoTwo r) (no_two_from_apart xs e) (λ l a b la lb h. no_two_swapped l a b la lb h) ys s)

  pub not_apart : (xs : List X) (k : ℕ) (d : X) → k + 1 < length xs → r (get_or xs k d) (get_or xs (k + 1) d) ≡ true → apart r xs ≡ false
  not_apart xs k d l e =
      false_from_ne_true _ (λ h. true≢false (sym e ∙ no_two_from_apart xs h k (k + 1) d (omega arith) (omega arith) l))

-- ---- groups that are sorted by name

-- whether two groups of the code conflict
abbrev pub clash : NamedGroup → NamedGroup → Bool
clash x y = conflict (capture_of x) (capture_of y)

clash-sym : (x y : NamedGroup) → clash x y ≡ true → clash y x ≡ true
clash-sym x y = conflict-sym (capture_of x) (capture_of y)

-- The one group comes before the other in the source.
abbrev pub IsPlaced : NamedGroup → NamedGroup → Type 0
IsPlaced x y = (y.left ≤ x.left) × IsBefore (capture_of x) (capture_of y)

-- The one group comes before the other where groups are sorted by name, and those of one name are in the order of the
-- source.
pub record IsSortedBefore (x y : NamedGroup) : Type 0 where
  pub names : is_before y x ≡ false
  pub placed : x.name.items ≡ y.name.items → IsPlaced x y

neither_less : (r : Ordering) → is_lt r ≡ false → is_lt (ordering_reverse r) ≡ false → is_eq r ≡ true
neither_less Less h k = absurd (true≢false h)
neither_less Equal h k = refl
neither_less Greater h k = absurd (true≢false k)

-- If neither of two names is less than the other, they are equal.
same_names : (a b : List ℕ) → is_lt (slice_cmp nat_cmp b a) ≡ false → is_lt (slice_cmp nat_cmp a b) ≡ false → b ≡ a
same_names a b h h' =
    (bytes_eq-Decides b a).0
    (sym (is_eq-slice_cmp b a)
    ∙ neither_less (slice_cmp nat_cmp b a) h (subst (λ (r : Ordering). is_lt r ≡ false) (nat_list_cmp_total.antisymm a b) h'))

-- A group between two that conflict conflicts with one of them.
groups_between : (x y z : NamedGroup) → IsSortedBefore x y → IsSortedBefore y z → clash x z ≡ true →
    (z.left ≤ y.left) × ((clash x y ≡ true) ⊎ (clash y z ≡ true))
groups_between x y z first second e =
    let parts = and_parts _ _ e in
    let outer : z.name.items ≡ x.name.items = (bytes_eq-Decides _ _).0 parts.0 in
    let below : is_lt (slice_cmp nat_cmp x.name.items y.name.items) ≡ false =
    subst (λ (n : List ℕ). is_lt (slice_cmp nat_cmp n y.name.items) ≡ false) outer second.names in
    let left : y.name.items ≡ x.name.items = same_names x.name.items y.name.items first.names below in
    let right : z.name.items ≡ y.name.items = outer ∙ sym left in
    let near = first.placed (sym left) in
    let far = second.placed (sym right) in
    let alike : bytes_eq y.name.items x.name.items ≡ true = (bytes_eq-Decides _ _).1 left in
    let alike' : bytes_eq z.name.items y.name.items ≡ true = (bytes_eq-Decides _ _).1 right in
    let p = reverse (path_of x.path) in
    let q = reverse (path_of y.path) in
    let s = reverse (path_of z.path) in (
      far.0,
      by (are_alternatives p q) (are_alternatives q s) refl refl alike alike'
          (λ f g. true≢false (sym (alternatives_through p q s near.1 far.1 f g) ∙ not_from_true' _ parts.1)),
    )
  where
    not_from_true' : (b : Bool) → not b ≡ true → b ≡ false
    not_from_true' true h = sym h
    not_from_true' false h = refl

    by : (f g : Bool) → are_alternatives (reverse (path_of x.path)) (reverse (path_of y.path)) ≡ f →
        are_alternatives (reverse (path_of y.path)) (reverse (path_of z.path)) ≡ g →
        bytes_eq y.name.items x.name.items ≡ true → bytes_eq z.name.items y.name.items ≡ true →
        (are_alternatives (reverse (path_of x.path)) (reverse (path_of y.path)) ≡ true →
        are_alternatives (reverse (path_of y.path)) (reverse (path_of z.path)) ≡ true → ⊥) →
        (clash x y ≡ true) ⊎ (clash y z ≡ true)
    by false g e e' a a' none = inl (and_from _ _ a (ap not e))
    by true false e e' a a' none = inr (and_from _ _ a' (ap not e'))
    by true true e e' a a' none = absurd (none e e')

-- No two adjacent groups conflict, if at least n code points remain from the second one on.
abbrev pub NearApart : ℕ → List NamedGroup → Type 0
NearApart n xs = (k : ℕ) (d : NamedGroup) → k + 1 < length xs → n ≤ (get_or xs (k + 1) d).left → clash (get_or xs k d) (get_or xs (k + 1) d) ≡ false

-- by induction on the number of groups between them
far : (n : ℕ) (xs : List NamedGroup) → AllPairs IsSortedBefore xs → NearApart n xs → (between i j : ℕ) (d : NamedGroup) → j ≡ i + 1 + between →
    j < length xs → n ≤ (get_or xs j d).left → clash (get_or xs i d) (get_or xs j d) ≡ false
far n xs up near zero i j d e m h =
    let same : j ≡ i + 1 = omega (arith, e) in
    subst (λ k. clash (get_or xs i d) (get_or xs k d) ≡ false) (sym same)
    (near i d (omega (arith, same, m)) (subst (λ k. n ≤ (get_or xs k d).left) same h))
far n xs up near (suc between) i j d e m h =
    false_from_ne_true _ (λ clashes.
    let next = groups_between (get_or xs i d) (get_or xs (i + 1) d) (get_or xs j d) (up i (i + 1) d (omega arith) (omega (arith, e, m)))
    (up (i + 1) j d (omega (arith, e)) m) clashes in
    ⊎_elim (λ (first : clash (get_or xs i d) (get_or xs (i + 1) d) ≡ true).
    true≢false (sym first ∙ near i d (omega (arith, e, m)) (omega (arith, next.0, h))))
    (λ (second : clash (get_or xs (i + 1) d) (get_or xs j d) ≡ true).
    true≢false (sym second ∙ far n xs up near between (i + 1) j d (omega (arith, e)) m h)) next.1)

-- Two groups conflict, from each of which on at least n code points remain.
abbrev clash_from : ℕ → NamedGroup → NamedGroup → Bool
clash_from n x y = is_from n x && (is_from n y && clash x y)

clash_from-sym : (n : ℕ) (x y : NamedGroup) → clash_from n x y ≡ true → clash_from n y x ≡ true
clash_from-sym n x y e =
    let first = and_parts (is_from n x) _ e in
    let second = and_parts (is_from n y) _ first.1 in
    and_from _ _ second.0 (and_from _ _ first.0 (clash-sym x y second.1))

no_two_from : (n : ℕ) (xs : List NamedGroup) → AllPairs IsSortedBefore xs → NearApart n xs → (i j : ℕ) (d : NamedGroup) → i < j → j < length xs →
    clash_from n (get_or xs i d) (get_or xs j d) ≡ false
no_two_from n xs up near i j d less m =
    false_from_ne_true _ (λ e.
    let first = and_parts (is_from n (get_or xs i d)) _ e in
    let second = and_parts (is_from n (get_or xs j d)) _ first.1 in
    let test : nat_le n (get_or xs j d).left ≡ true = second.0 in
    true≢false (sym second.1 ∙ far n xs up near (j - (i + 1)) i j d (omega (arith, less)) m (grind (arith, nat_tests, test))))

apart_from : (n : ℕ) (xs : List NamedGroup) → AllPairs IsSortedBefore xs → NearApart n xs → apart (clash_from n) xs ≡ true
apart_from n xs up near =
    apart_from_no_two (clash_from n) (clash_from-sym n) xs (λ i j d ne l m.
    ⊎_elim (λ (less : i < j). no_two_from n xs up near i j d less m)
    (λ (more : j ≤ i).
    other_way (clash_from n) (clash_from-sym n) (get_or xs j d) (get_or xs i d) (no_two_from n xs up near j i d (omega (arith, more, ne)) l)) (cases_lt i j))

-- ---- the groups from a position on

-- Those are apart exactly if no two of them conflict.
first_apart : (n : ℕ) (x : NamedGroup) (xs : List NamedGroup) → is_from n x ≡ true →
    list_all (λ y. not (clash_from n x y)) xs ≡ list_all (λ y. not (clash x y)) (filter (is_from n) xs)
first_apart n x [] e = refl
first_apart n x (y ∷ ys) e = by (is_from n y) (first_apart n x ys e)
  where
    by : (b : Bool) → list_all (λ y. not (clash_from n x y)) ys ≡ list_all (λ y. not (clash x y)) (filter (is_from n) ys) →
        not (is_from n x && (b && clash x y)) && list_all (λ y. not (clash_from n x y)) ys
        ≡ list_all (λ y. not (clash x y)) (cond b (y ∷ filter (is_from n) ys) (filter (is_from n) ys))
    by true h = ap₂ (λ a b. not (a && clash x y) && b) e h
    by false h = ap (λ a. not (a && (false && clash x y)) && list_all (λ y. not (clash_from n x y)) ys) e ∙ h

first_aside : (n : ℕ) (x : NamedGroup) (xs : List NamedGroup) → is_from n x ≡ false → list_all (λ y. not (clash_from n x y)) xs ≡ true
first_aside n x [] e = refl
first_aside n x (y ∷ ys) e = ap (λ b. not (b && (is_from n y && clash x y)) && list_all (λ y. not (clash_from n x y)) ys) e ∙ first_aside n x ys e

apart-filter : (n : ℕ) (xs : List NamedGroup) → apart (clash_from n) xs ≡ apart clash (filter (is_from n) xs)
apart-filter n [] = refl
apart-filter n (x ∷ xs) = by (is_from n x) refl (apart-filter n xs)
  where
    by : (b : Bool) → is_from n x ≡ b → apart (clash_from n) xs ≡ apart clash (filter (is_from n) xs) →
        list_all (λ y. not (clash_from n x y)) xs && apart (clash_from n) xs
        ≡ apart clash (cond b (x ∷ filter (is_from n) xs) (filter (is_from n) xs))
    by true e h = ap₂ (λ a b. a && b) (first_apart n x xs e) h
    by false e h = ap (λ b. b && apart (clash_from n) xs) (first_aside n x xs e) ∙ h

are_apart-map : (gs : List NamedGroup) → are_apart (map capture_of gs) ≡ apart (λ x y. conflict (capture_of x) (capture_of y)) gs
are_apart-map [] = refl
are_apart-map (g ∷ gs) = ap₂ (λ a b. a && b) (list_all-map (λ other. not (conflict (capture_of g) other)) capture_of gs) (are_apart-map gs)

-- the groups from a position on, in the order in which they were found
apart_found : (n : ℕ) (found : List NamedGroup) → are_apart (map capture_of (filter (is_from n) found)) ≡ apart (clash_from n) found
apart_found n found = are_apart-map (filter (is_from n) found) ∙ sym (apart-filter n found)

-- If no two adjacent groups conflict in sorted order, then no two groups conflict in any order.
pub none_conflict : (n : ℕ) (found sorted : List NamedGroup) → IsPermutation found sorted → AllPairs IsSortedBefore sorted → NearApart n sorted →
    are_apart (map capture_of (filter (is_from n) found)) ≡ true
none_conflict n found sorted moved up near =
    apart_found n found
    ∙ apart_shuffled (clash_from n) (clash_from-sym n) sorted found (IsPermutation-sym _ _ moved) (apart_from n sorted up near)

-- Two adjacent groups in sorted order conflict, from the second of which on n code points remain.
pub record ConflictAt (n : ℕ) (xs : List NamedGroup) : Type 0 where
  pub index : ℕ
  pub within : index + 1 < length xs
  pub conflicts : (d : NamedGroup) → clash (get_or xs index d) (get_or xs (index + 1) d) ≡ true
  pub at : (d : NamedGroup) → (get_or xs (index + 1) d).left ≡ n

pub two_conflict : (n : ℕ) (found sorted : List NamedGroup) → IsPermutation found sorted → AllPairs IsSortedBefore sorted → ConflictAt n sorted →
    are_apart (map capture_of (filter (is_from n) found)) ≡ false
two_conflict n found [] moved up c = absurd (omega (arith, c.within))
two_conflict n found (g ∷ gs) moved up c =
    let x = get_or (g ∷ gs) c.index g in
    let y = get_or (g ∷ gs) (c.index + 1) g in
    let parts = and_parts _ _ (c.conflicts g) in
    let same : y.name.items ≡ x.name.items = (bytes_eq-Decides _ _).0 parts.0 in
    let placed = (up c.index (c.index + 1) g (omega arith) c.within).placed (sym same) in
    let here : y.left ≡ n = c.at g in
    let first : is_from n x ≡ true = let less : n ≤ x.left = omega (arith, placed.0, here) in grind (arith, nat_tests, less) in
    let second : is_from n y ≡ true = grind (arith, nat_tests, here) in
    let clashes : clash_from n x y ≡ true = and_from _ _ first (and_from _ _ second (c.conflicts g)) in
    apart_found n found
    ∙ false_from_ne_true _ (λ h. true≢false (sym (apart_shuffled (clash_from n) (clash_from-sym n) found (g ∷ gs) moved h)
    ∙ not_apart (clash_from n) (clash_from-sym n) (g ∷ gs) c.index g c.within clashes))

pub all_from : (xs : List NamedGroup) → filter (is_from 0) xs ≡ xs
all_from [] = refl
all_from (x ∷ xs) = let e : nat_le 0 x.left ≡ true = grind (arith, nat_tests) in rw e (ap (λ ys. x ∷ ys) (all_from xs))

-- Whatever their order, two groups conflict.
pub conflict_in_any_order : (n : ℕ) (found sorted : List NamedGroup) → IsPermutation found sorted → ConflictAt n sorted →
    are_apart (map capture_of found) ≡ false
conflict_in_any_order n found [] moved c = absurd (omega (arith, c.within))
conflict_in_any_order n found (g ∷ gs) moved c =
    are_apart-map found
    ∙ false_from_ne_true _ (λ h. true≢false (sym (apart_shuffled clash clash-sym found (g ∷ gs) moved h)
    ∙ not_apart clash clash-sym (g ∷ gs) c.index g c.within (c.conflicts g)))

-- ---- the first conflict

-- A number above the one that is found, if any.
abbrev pub beyond : Option ℕ → ℕ
beyond None = 0
beyond (Some n) = n + 1

beyond-greatest : (a b : Option ℕ) → (beyond a ≤ beyond (greatest a b)) × (beyond b ≤ beyond (greatest a b))
beyond-greatest None b = (omega arith, omega arith)
beyond-greatest (Some a) None = (omega arith, omega arith)
beyond-greatest (Some a) (Some b) = (omega arith, omega arith)

next_apart : (x y : NamedGroup) (ys : List NamedGroup) → beyond (conflict_with_next x (y ∷ ys)) ≤ y.left → clash x y ≡ false
next_apart x y ys = by (clash x y)
  where
    by : (b : Bool) → beyond (cond b (Some y.left) None) ≤ y.left → b ≡ false
    by true h = absurd (omega (arith, h))
    by false h = refl

-- No two adjacent groups past the first conflict are in conflict.
pub near_first : (xs : List NamedGroup) → NearApart (beyond (first_conflict xs)) xs
unfolding first_conflict
near_first [] k d l h = absurd (omega (arith, l))
near_first (x ∷ []) k d l h = absurd (omega (arith, l))
near_first (x ∷ y ∷ ys) zero d l h =
    next_apart x y ys (omega (arith, h, (beyond-greatest (conflict_with_next x (y ∷ ys)) (first_conflict (y ∷ ys))).0))
near_first (x ∷ y ∷ ys) (suc k) d l h =
    let e : suc k + 1 ≡ suc (k + 1) = omega arith in
    let past : beyond (first_conflict (x ∷ y ∷ ys)) ≤ (get_or (y ∷ ys) (k + 1) d).left =
    subst (λ i. beyond (first_conflict (x ∷ y ∷ ys)) ≤ (get_or (x ∷ y ∷ ys) i d).left) e h in
    let less : beyond (first_conflict (y ∷ ys)) ≤ beyond (first_conflict (x ∷ y ∷ ys)) =
    (beyond-greatest (conflict_with_next x (y ∷ ys)) (first_conflict (y ∷ ys))).1 in
    subst (λ i. clash (get_or (y ∷ ys) k d) (get_or (x ∷ y ∷ ys) i d) ≡ false) (sym e)
    (near_first (y ∷ ys) k d (omega (arith, l)) (omega (arith, past, less)))

greatest-is : (a b : Option ℕ) (n : ℕ) → greatest a b ≡ Some n → (a ≡ Some n) ⊎ (b ≡ Some n)
greatest-is None b n e = inr e
greatest-is (Some a) None n e = inl e
greatest-is (Some a) (Some b) n e =
    ⊎_elim (λ (less : a < b). let m : max a b ≡ b = omega (arith, less) in inr (ap (λ (k : ℕ). Some k) (sym m) ∙ e))
    (λ (more : b ≤ a). let m : max a b ≡ a = omega (arith, more) in inl (ap (λ (k : ℕ). Some k) (sym m) ∙ e)) (cases_lt a b)

next_conflicts : (x : NamedGroup) (ys : List NamedGroup) (n : ℕ) → conflict_with_next x ys ≡ Some n → ConflictAt n (x ∷ ys)
next_conflicts x [] n e = absurd (none-some n e)
next_conflicts x (y ∷ ys) n e =
    let found = cond_some (clash x y) y.left n e in
    record { index = 0; within = omega arith; conflicts = λ d. found.0; at = λ d. found.1 }

-- The conflict that is found is one.
pub conflict_found : (xs : List NamedGroup) (n : ℕ) → first_conflict xs ≡ Some n → ConflictAt n xs
unfolding first_conflict
conflict_found [] n e = absurd (none-some n e)
conflict_found (x ∷ xs) n e =
    ⊎_elim (λ (here : conflict_with_next x xs ≡ Some n). next_conflicts x xs n here)
    (λ (later : first_conflict xs ≡ Some n).
    let c = conflict_found xs n later in
    let e : suc c.index + 1 ≡ suc (c.index + 1) = omega arith in
    record {
      index = suc c.index;
      within = omega (arith, c.within);
      conflicts = λ d. subst (λ i. clash (get_or xs c.index d) (get_or (x ∷ xs) i d) ≡ true) (sym e) (c.conflicts d);
      at = λ d. subst (λ i. (get_or (x ∷ xs) i d).left ≡ n) (sym e) (c.at d);
    })
    (greatest-is (conflict_with_next x xs) (first_conflict xs) n e)

-- ---- the search for it

greatest-assoc : (a b c : Option ℕ) → greatest a (greatest b c) ≡ greatest (greatest a b) c
greatest-assoc None b c = refl
greatest-assoc (Some a) None c = refl
greatest-assoc (Some a) (Some b) None = refl
greatest-assoc (Some a) (Some b) (Some c) = let e : max a (max b c) ≡ max (max a b) c = omega arith in ap (λ (n : ℕ). Some n) e

greatest-none : (a : Option ℕ) → greatest a None ≡ a
greatest-none None = refl
greatest-none (Some a) = refl

step_by : (groups rest after : List NamedGroup) (group : NamedGroup) (first next : Option ℕ) → rest ≡ group ∷ after →
    next ≡ greatest first (conflict_with_next group after) → first_conflict groups ≡ greatest first (first_conflict rest) →
    first_conflict groups ≡ greatest next (first_conflict after)
unfolding first_conflict
step_by groups rest after group first next split found before =
    before ∙ ap (λ gs. greatest first (first_conflict gs)) split ∙ greatest-assoc first (conflict_with_next group after) (first_conflict after)
    ∙ ap (λ (a : Option ℕ). greatest a (first_conflict after)) (sym found)

-- The search moves on past a group that conflicts with the next one.
pub step_conflict : (groups rest after : List NamedGroup) (group next : NamedGroup) (first : Option ℕ) (n : ℕ) → rest ≡ group ∷ after →
    Some next ≡ slice_get after 0 → clash group next ≡ true → Some n ≡ greatest first (Some next.left) →
    first_conflict groups ≡ greatest first (first_conflict rest) → first_conflict groups ≡ greatest (Some n) (first_conflict after)
step_conflict groups rest [] group next first n split some clashes found before = absurd (none-some next (sym some))
step_conflict groups rest (g ∷ after) group next first n split some clashes found before =
    let same : next ≡ g = same_Some next g some in
    let here : conflict_with_next group (g ∷ after) ≡ Some next.left =
    subst (λ (h : NamedGroup). cond (clash group h) (Some h.left) None ≡ Some next.left) same (rw clashes refl) in
    step_by groups rest (g ∷ after) group first (Some n) split (found ∙ ap (greatest first) (sym here)) before

-- The search moves on past a group that does not conflict with the next one.
pub step_apart : (groups rest after : List NamedGroup) (group next : NamedGroup) (first : Option ℕ) → rest ≡ group ∷ after →
    Some next ≡ slice_get after 0 → clash group next ≡ false →
    first_conflict groups ≡ greatest first (first_conflict rest) → first_conflict groups ≡ greatest first (first_conflict after)
step_apart groups rest [] group next first split some apart before = absurd (none-some next (sym some))
step_apart groups rest (g ∷ after) group next first split some apart before =
    let same : next ≡ g = same_Some next g some in
    let here : conflict_with_next group (g ∷ after) ≡ None =
    subst (λ (h : NamedGroup). cond (clash group h) (Some h.left) None ≡ None) same (rw apart refl) in
    step_by groups rest (g ∷ after) group first first split (sym (greatest-none first) ∙ ap (greatest first) (sym here)) before

-- The search moves on past the last group.
pub step_last : (groups rest after : List NamedGroup) (group : NamedGroup) (first : Option ℕ) → rest ≡ group ∷ after → None ≡ slice_get after 0 →
    first_conflict groups ≡ greatest first (first_conflict rest) → first_conflict groups ≡ greatest first (first_conflict after)
step_last groups rest [] group first split none before =
    step_by groups rest [] group first first split (sym (greatest-none first)) before
step_last groups rest (g ∷ after) group first split none before = absurd (none-some g none)

pub all_searched : (groups rest : List NamedGroup) (first : Option ℕ) → length rest ≡ 0 → first_conflict groups ≡ greatest first (first_conflict rest) →
    first ≡ first_conflict groups
unfolding first_conflict
all_searched groups [] first empty before = sym (before ∙ greatest-none first)
all_searched groups (g ∷ rest) first empty before = absurd (omega (arith, empty))

-- ---- from the order of the source to sorted order

-- What holds of the elements that pass a test holds of each that does.
all_of : {X : Type 0} (P : X → Type 0) (p : X → Bool) (xs : List X) → All P (filter p xs) → (k : ℕ) (d : X) → k < length xs → p (get_or xs k d) ≡ true →
    P (get_or xs k d)
all_of P p [] h k d l e = absurd (omega (arith, l))
all_of {X} P p (x ∷ xs) h k d l e = by (all_of P p xs) (p x) refl h k l e
  where
    by : (All P (filter p xs) → (k : ℕ) (d : X) → k < length xs → p (get_or xs k d) ≡ true → P (get_or xs k d)) →
        (b : Bool) → p x ≡ b → All P (cond b (x ∷ filter p xs) (filter p xs)) → (k : ℕ) → k < length (x ∷ xs) → p (get_or (x ∷ xs) k d) ≡ true →
        P (get_or (x ∷ xs) k d)
    by others true is h zero l e = All-head P x (filter p xs) h
    by others true is h (suc k) l e = others (All-tail P x (filter p xs) h) k d (omega (arith, l)) e
    by others false is h zero l e = absurd (true≢false (sym e ∙ is))
    by others false is h (suc k) l e = others h k d (omega (arith, l)) e

pairs_of : {X : Type 0} (R : X → X → Type 0) (p : X → Bool) (xs : List X) → AllPairs R (filter p xs) → (i j : ℕ) (d : X) → i < j → j < length xs →
    p (get_or xs i d) ≡ true → p (get_or xs j d) ≡ true → R (get_or xs i d) (get_or xs j d)
pairs_of R p [] h i j d less l e e' = absurd (omega (arith, l))
pairs_of {X} R p (x ∷ xs) h i j d less l e e' = by (pairs_of R p xs) (p x) refl h i j less l e e'
  where
    by : (AllPairs R (filter p xs) → (i j : ℕ) (d : X) → i < j → j < length xs → p (get_or xs i d) ≡ true → p (get_or xs j d) ≡ true →
        R (get_or xs i d) (get_or xs j d)) →
        (b : Bool) → p x ≡ b → AllPairs R (cond b (x ∷ filter p xs) (filter p xs)) → (i j : ℕ) → i < j → j < length (x ∷ xs) →
        p (get_or (x ∷ xs) i d) ≡ true → p (get_or (x ∷ xs) j d) ≡ true → R (get_or (x ∷ xs) i d) (get_or (x ∷ xs) j d)
    by others b is h i zero less l e e' = absurd (omega (arith, less))
    by others true is h zero (suc j) less l e e' =
        all_of (R x) p xs (λ k d within. h 0 (suc k) d (omega arith) (omega (arith, within))) j d (omega (arith, l)) e'
    by others false is h zero (suc j) less l e e' = absurd (true≢false (sym e ∙ is))
    by others true is h (suc i) (suc j) less l e e' =
        others (λ a b d below within. h (suc a) (suc b) d (omega (arith, below)) (omega (arith, within))) i j d (omega (arith, less)) (omega (arith, l)) e e'
    by others false is h (suc i) (suc j) less l e e' = others h i j d (omega (arith, less)) (omega (arith, l)) e e'

-- A stable sort by name keeps the order of the groups of one name.
pub sorted_before : (found sorted : List NamedGroup) → AllPairs IsPlaced found → IsSortedBy is_before sorted → IsStableBy is_before found sorted →
    AllPairs IsSortedBefore sorted
sorted_before found sorted order up stable i j d less within =
    let x = get_or sorted i d in
    let y = get_or sorted j d in
    record {
      names = sorted_far is_before (ranks_by nat_list_cmp_total (λ (g : NamedGroup). g.name.items)) sorted up i j d (omega (arith, less)) within;
      placed = λ same.
          pairs_of IsPlaced (ties is_before x) sorted
          (subst (AllPairs IsPlaced) (sym (stable x)) (AllPairs-filter IsPlaced (ties is_before x) found order)) i j d less within
          (ties_by_name x x ∙ (bytes_eq-Decides x.name.items x.name.items).1 refl)
          (ties_by_name x y ∙ (bytes_eq-Decides y.name.items x.name.items).1 (sym same));
    }
