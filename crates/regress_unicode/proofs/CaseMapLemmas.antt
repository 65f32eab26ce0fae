-- Properties of the case mapping of a table, from those of the code points that the entries map to others.
use Rattle.std.proofs.Common.{◌≡◌, ◌≢◌, ℕ, zero, suc, ◌+◌, ◌-◌, ◌%◌, ◌<◌, ◌≤◌, ◌⊎◌, Bool, true, false, not, ◌&&◌, nat_lt, ◌==◌, IsTrue, List, [], ◌∷◌, ◌++◌, length, map, cond, filter, get_or, All, inl, inr, refl, sym, ap, subst, ◌∙◌, arith}
use Rattle.std.proofs.lemmas.Bool.{cases_eq, eqb-true, eq-eqb}
use Rattle.std.proofs.Math.Bool.{or-true}
use Rattle.std.proofs.lemmas.Bool.Decides.{nat_tests}
use Rattle.std.proofs.lemmas.List.Elements.{All-head, All-tail, All-cons, All-map, All-weaker, filter_passes, filter_agree}
use Rattle.std.proofs.lemmas.List.Sorted.{IsNonDecreasingBy-from_sort}
use Rattle.std.specs.List.Sorted.{IsNonDecreasing, IsSorted, IsStable, ties}
use Rattle.std.specs.Ordering.{nat_cmp, is_lt}
use Rattle.std.specs.List.{range_with_len}
use Rattle.regress_base.specs.Intervals.{code_point_max}
use Rattle.regress_base.specs.Listing.{lists, is_ascending_from}
use Rattle.regress_unicode.specs.FoldEntries.{FoldEntry, moved, is_in_mapping, mapped_in_mapping, mapped}
use Rattle.regress_unicode.specs.ValidEntries.{is_in_order_from, is_in_order, are_targets_in_range, AreValidEntries}
use Rattle.regress_unicode.specs.Moves.{codes, moves, mapped_code_points, targets, count_of, HasNoFour}
use Rattle.regress_base.specs.Table.{IsIdempotent, HasSmallClasses, IsCaseMapping}
use Rattle.regress_base.proofs.lemmas.Listings.{ascending_parts, ascending_within, ascending_filter, lists-tail, lists-past, lists-filter, length_without, ascending_append, lists-append, lists-run}
use Rattle.regress_unicode.proofs.ListLemmas.{order_parts, shifted_is}

-- a number that is mapped to another one is in a range
pub moves_in_codes : (mappings : List FoldEntry) (c : ℕ) → (lists (codes mappings) c ≡ true) ⊎ (mapped mappings c ≡ c)
unfolding mapped
moves_in_codes [] c = inr refl
moves_in_codes (mapping ∷ mappings) c = by_mapping (is_in_mapping mapping c) refl (moves_in_codes mappings c)
  where
    by_mapping : (b : Bool) → is_in_mapping mapping c ≡ b → (lists (codes mappings) c ≡ true) ⊎ (mapped mappings c ≡ c) →
        (lists (range_with_len mapping.start mapping.length ++ codes mappings) c ≡ true) ⊎ (cond b (mapped_in_mapping mapping c) (mapped mappings c) ≡ c)
    by_mapping true e rest = inl (lists-append (range_with_len mapping.start mapping.length) (codes mappings) c ∙
        (let here : lists (range_with_len mapping.start mapping.length) c ≡ true = lists-run mapping.start mapping.length c ∙ e in rw here))
    by_mapping false e (inl later) = inl (lists-append (range_with_len mapping.start mapping.length) (codes mappings) c ∙ (rw later (or-true _)))
    by_mapping false e (inr stays) = inr stays

-- entries in order have ascending code points
pub ascending_codes : (low : ℕ) (mappings : List FoldEntry) → IsTrue (is_in_order_from low mappings) → IsTrue (is_ascending_from low (codes mappings))
ascending_codes low [] h = h
ascending_codes low (mapping ∷ mappings) h =
    let parts = order_parts low mapping mappings h in
    ascending_append low mapping.start mapping.length (codes mappings) parts.above (ascending_codes (mapping.start + mapping.length) mappings parts.rest)

pub mover_listed : (mappings : List FoldEntry) (c : ℕ) → mapped mappings c ≢ c → lists (mapped_code_points (mapped mappings) mappings) c ≡ true
mover_listed mappings c other = elim (moves_in_codes mappings c) [
  | inl here ↦ lists-filter (moves (mapped mappings)) (codes mappings) c ∙
      (let no : (mapped mappings c == c) ≡ false = grind (arith, nat_tests, other) in rw (no, here))
  | inr stays ↦ absurd (other stays)
]

-- ---- idempotent

-- a mapping is idempotent if every result of it is mapped to itself
pub idempotent_from_movers : (mappings : List FoldEntry) → ((c : ℕ) → lists (mapped_code_points (mapped mappings) mappings) c ≡ true →
    mapped mappings (mapped mappings c) ≡ mapped mappings c) → IsIdempotent (mapped mappings)
idempotent_from_movers mappings h c =
    elim (cases_eq (mapped mappings c) c) [
      | inl stays ↦ ap (mapped mappings) stays
      | inr other ↦ h c (mover_listed mappings c other)
    ]

-- ---- classes

-- the number of elements of a list that are mapped to a number
abbrev pub count_to : (ℕ → ℕ) → ℕ → List ℕ → ℕ
count_to f d xs = length (filter (λ x. f x == d) xs)

pub All-lists : (P : ℕ → Type 0) (xs : List ℕ) (c : ℕ) → All P xs → lists xs c ≡ true → P c
All-lists P [] c all h = let no : false ≡ true = h in cc
All-lists P (x ∷ xs) c all h = elim (cases_eq x c) [
  | inl same ↦ subst P same (All-head P x xs all)
  | inr other ↦ All-lists P xs c (All-tail P x xs all) (lists-past x xs c other h)
]

-- if at most three other code points are mapped to each canonical form, at most four have the same one
pub small_from_counts : (mappings : List FoldEntry) → IsTrue (is_in_order mappings) →
    ((d : ℕ) → count_to (mapped mappings) d (mapped_code_points (mapped mappings) mappings) ≤ 3) → HasSmallClasses (mapped mappings)
small_from_counts mappings order h d xs up same =
    let f : ℕ → ℕ = mapped mappings in
    let others : List ℕ = filter (λ x. not (x == d)) xs in
    let moved : List ℕ = filter (λ x. f x == d) (mapped_code_points f mappings) in
    let others_up = ascending_filter 0 (λ x. not (x == d)) xs up in
    let moved_up = ascending_filter 0 (λ x. f x == d) (mapped_code_points f mappings)
    (ascending_filter 0 (moves f) (codes mappings) (ascending_codes 0 mappings order)) in
    let within : (c : ℕ) → lists others c ≡ true → lists moved c ≡ true = λ c listed.
    (let both : (not (c == d) && lists xs c) ≡ true = sym (lists-filter (λ x. not (x == d)) xs c) ∙ listed in
    let ne : c ≢ d = grind (arith, nat_tests, both) in
    let in_xs : lists xs c ≡ true = grind (arith, nat_tests, both) in
    let goes : f c ≡ d = All-lists (λ x. f x ≡ d) xs c same in_xs in
    let mover = mover_listed mappings c (λ e. ne (sym e ∙ goes)) in
    let yes : (f c == d) ≡ true = eq-eqb (f c) d goes in
    lists-filter (λ x. f x == d) (mapped_code_points f mappings) c ∙ rw (yes, mover)) in
    let shorter = ascending_within 0 0 others moved others_up moved_up within in
    let without = length_without 0 d xs up in
    let count : length moved ≤ 3 = h d in
    omega (arith, shorter, without, count)

-- a number inserted in order
insert_into : ℕ → List ℕ → List ℕ
insert_into d [] = d ∷ []
insert_into d (y ∷ ys) = cond (nat_lt d y) (d ∷ y ∷ ys) (y ∷ insert_into d ys)

ascending_insert : (low d : ℕ) (ys : List ℕ) → low ≤ d → IsTrue (is_ascending_from low ys) → lists ys d ≡ false →
    IsTrue (is_ascending_from low (insert_into d ys))
unfolding insert_into
ascending_insert low d [] le h absent = grind (arith, nat_tests)
ascending_insert low d (y ∷ ys) le h absent =
    let parts = ascending_parts low y ys h in
    let ne : y ≢ d = grind (arith, nat_tests, absent) in
    let later : lists ys d ≡ false = grind (arith, nat_tests, absent) in
    by_order (nat_lt d y) refl parts.above parts.rest ne (λ above. ascending_insert (y + 1) d ys above parts.rest later)
  where
    by_order : (b : Bool) → nat_lt d y ≡ b → low ≤ y → IsTrue (is_ascending_from (y + 1) ys) → y ≢ d →
        (y + 1 ≤ d → IsTrue (is_ascending_from (y + 1) (insert_into d ys))) →
        IsTrue (is_ascending_from low (cond b (d ∷ y ∷ ys) (y ∷ insert_into d ys)))
    by_order true e above rest ne into = grind (arith, nat_tests, e, rest)
    by_order false e above rest ne into = let placed = into (grind (arith, nat_tests, e, ne)) in grind (arith, nat_tests, above, placed)

length_insert : (d : ℕ) (ys : List ℕ) → length (insert_into d ys) ≡ 1 + length ys
unfolding insert_into
length_insert d [] = refl
length_insert d (y ∷ ys) = let rest = length_insert d ys in by_order (nat_lt d y) rest
  where
    by_order : (b : Bool) → length (insert_into d ys) ≡ 1 + length ys →
        length (cond b (d ∷ y ∷ ys) (y ∷ insert_into d ys)) ≡ 1 + suc (length ys)
    by_order true rest = omega arith
    by_order false rest = omega (arith, rest)

All-insert : (P : ℕ → Type 0) (d : ℕ) (ys : List ℕ) → P d → All P ys → All P (insert_into d ys)
unfolding insert_into
All-insert P d [] here all = All-cons P d [] here all
All-insert P d (y ∷ ys) here all = by_order (nat_lt d y) (All-insert P d ys here (All-tail P y ys all))
  where
    by_order : (b : Bool) → All P (insert_into d ys) → All P (cond b (d ∷ y ∷ ys) (y ∷ insert_into d ys))
    by_order true rest = All-cons P d (y ∷ ys) here all
    by_order false rest = All-cons P y (insert_into d ys) (All-head P y ys all) rest

-- if four other code points are mapped to a canonical form, five have the same one
pub large_from_count : (mappings : List FoldEntry) (d : ℕ) → IsTrue (is_in_order mappings) → mapped mappings d ≡ d →
    4 ≤ count_to (mapped mappings) d (mapped_code_points (mapped mappings) mappings) → ¬ HasSmallClasses (mapped mappings)
large_from_count mappings d order own h small =
    let f : ℕ → ℕ = mapped mappings in
    let moved : List ℕ = filter (λ x. f x == d) (mapped_code_points f mappings) in
    let moved_up = ascending_filter 0 (λ x. f x == d) (mapped_code_points f mappings)
    (ascending_filter 0 (moves f) (codes mappings) (ascending_codes 0 mappings order)) in
    let yes : (f d == d) ≡ true = eq-eqb (f d) d own in
    let stays : lists (mapped_code_points f mappings) d ≡ false = lists-filter (moves f) (codes mappings) d ∙ rw yes in
    let absent : lists moved d ≡ false = lists-filter (λ x. f x == d) (mapped_code_points f mappings) d ∙ rw (yes, stays) in
    let same : All (λ x. f x ≡ d) moved = All-weaker (λ x. (f x == d) ≡ true) (λ x. f x ≡ d) (λ x e. eqb-true (f x) d e) moved
    (filter_passes (λ x. f x == d) (mapped_code_points f mappings)) in
    let five = small d (insert_into d moved) (ascending_insert 0 d moved (omega arith) moved_up absent)
    (All-insert (λ x. f x ≡ d) d moved own same) in
    let len = length_insert d moved in
    let count : 4 ≤ length moved = h in
    omega (arith, five, len, count)

-- ---- equal numbers in a sorted list

-- the number of elements that are mapped to d is the number of occurrences of d among the results
pub count_of-map : (f : ℕ → ℕ) (d : ℕ) (xs : List ℕ) → count_of d (map f xs) ≡ count_to f d xs
count_of-map f d [] = refl
count_of-map f d (x ∷ xs) = by_test (f x == d) (count_of-map f d xs)
  where
    by_test : (b : Bool) → count_of d (map f xs) ≡ count_to f d xs →
        length (cond b (f x ∷ filter (λ y. y == d) (map f xs)) (filter (λ y. y == d) (map f xs))) ≡ length
        (cond b (x ∷ filter (λ y. f y == d) xs) (filter (λ y. f y == d) xs))
    by_test true rest = ap suc rest
    by_test false rest = rest

tail_rises : (x : ℕ) (xs : List ℕ) → IsNonDecreasing (x ∷ xs) → IsNonDecreasing xs
tail_rises x xs up i j d le lt = up (suc i) (suc j) d (omega arith) (omega arith)

-- if the number at an index of a sorted list is greater than d, every occurrence of d is before the index
count_before : (d k : ℕ) (xs : List ℕ) → IsNonDecreasing xs → (k < length xs → d < get_or xs k 0) → count_of d xs ≤ k
count_before d k [] up above = omega arith
count_before d zero (x ∷ xs) up above =
    let here : d < x = above (omega arith) in
    let rest = count_before d zero xs (tail_rises x xs up) (λ lt.
    (let up_one = up zero (suc zero) 0 (omega arith) (omega arith) in omega (arith, here, up_one))) in
    let other : (x == d) ≡ false = grind (arith, nat_tests, here) in
    rw other rest
count_before d (suc k) (x ∷ xs) up above =
    by_test (x == d) (count_before d k xs (tail_rises x xs up) (λ lt. above (omega arith)))
  where
    by_test : (b : Bool) → count_of d xs ≤ k → length (cond b (x ∷ filter (λ y. y == d) xs) (filter (λ y. y == d) xs)) ≤ suc k
    by_test true rest = omega (arith, rest)
    by_test false rest = omega (arith, rest)

pub few_without_four : (d : ℕ) (xs : List ℕ) → IsNonDecreasing xs → HasNoFour xs → count_of d xs ≤ 3
few_without_four d [] up no_four = omega arith
few_without_four d (x ∷ xs) up no_four = by_test (x == d) refl
    (few_without_four d xs (tail_rises x xs up) (λ i lt. (let step : suc i + 3 ≡ suc (i + 3) = omega arith in
    subst (λ (k : ℕ). get_or xs i 0 ≢ get_or (x ∷ xs) k 0) step (no_four (suc i) (omega arith)))))
  where
    by_test : (b : Bool) → (x == d) ≡ b → count_of d xs ≤ 3 → length (cond b (x ∷ filter (λ y. y == d) xs) (filter (λ y. y == d) xs)) ≤ 3
    by_test true e rest =
        let same : x ≡ d = eqb-true x d e in
        let two = count_before d 2 xs (tail_rises x xs up) (λ lt.
        (let ne = no_four zero (omega arith) in
        let le = up zero 3 0 (omega arith) (omega arith) in
        omega (arith, ne, le, same))) in
        omega (arith, two)
    by_test false e rest = rest

-- between two indices of a sorted list with the number d all numbers are d
pub many_between : (d i j : ℕ) (xs : List ℕ) → IsNonDecreasing xs → i ≤ j → j < length xs → get_or xs i 0 ≡ d → get_or xs j 0 ≡ d →
    j + 1 ≤ i + count_of d xs
many_between d i j [] up le lt at_i at_j = absurd (omega arith)
many_between d zero zero (x ∷ xs) up le lt at_i at_j =
    let same : (x == d) ≡ true = eq-eqb x d at_i in
    rw same (omega arith)
many_between d zero (suc j) (x ∷ xs) up le lt at_i at_j =
    let same : (x == d) ≡ true = eq-eqb x d at_i in
    let up_one = up zero (suc zero) 0 (omega arith) (omega arith) in
    let up_j = up (suc zero) (suc j) 0 (omega arith) (omega arith) in
    let next : get_or xs zero 0 ≡ d = omega (arith, up_one, up_j, at_i, at_j) in
    let rest = many_between d zero j xs (tail_rises x xs up) (omega arith) (omega arith) next at_j in
    rw same (omega (arith, rest))
many_between d (suc i) zero (x ∷ xs) up le lt at_i at_j = absurd (omega arith)
many_between d (suc i) (suc j) (x ∷ xs) up le lt at_i at_j =
    by_test (x == d) (many_between d i j xs (tail_rises x xs up) (omega arith) (omega arith) at_i at_j)
  where
    by_test : (b : Bool) → j + 1 ≤ i + count_of d xs → suc j + 1 ≤ suc i + length
        (cond b (x ∷ filter (λ y. y == d) xs) (filter (λ y. y == d) xs))
    by_test true rest = omega (arith, rest)
    by_test false rest = omega (arith, rest)

-- ---- counts in the list of results

pub lists-map : (f : ℕ → ℕ) (xs : List ℕ) (c : ℕ) → lists xs c ≡ true → lists (map f xs) (f c) ≡ true
lists-map f [] c h = let no : false ≡ true = h in cc
lists-map f (x ∷ xs) c h = elim (cases_eq x c) [
  | inl same ↦ (let here : (f x == f c) ≡ true = eq-eqb (f x) (f c) (ap f same) in rw here)
  | inr other ↦ lists-tail (f x) (map f xs) (f c) (lists-map f xs c (lists-past x xs c other h))
]

pub idempotent_from_targets : (mappings : List FoldEntry) → All (λ d. mapped mappings d ≡ d) (targets mappings) → IsIdempotent (mapped mappings)
idempotent_from_targets mappings own =
    idempotent_from_movers mappings (λ c h. All-lists (λ d. mapped mappings d ≡ d) (targets mappings) (mapped mappings c) own
    (lists-map (mapped mappings) (mapped_code_points (mapped mappings) mappings) c h))

pub targets_from_idempotent : (mappings : List FoldEntry) → IsIdempotent (mapped mappings) → All (λ d. mapped mappings d ≡ d) (targets mappings)
targets_from_idempotent mappings h = All-map (λ d. mapped mappings d ≡ d) (mapped mappings) (mapped_code_points (mapped mappings) mappings) (λ k d lt. h _)

pub small_from_targets : (mappings : List FoldEntry) → IsTrue (is_in_order mappings) → ((d : ℕ) → count_of d (targets mappings) ≤ 3) →
    HasSmallClasses (mapped mappings)
small_from_targets mappings order few =
    small_from_counts mappings order (λ d. subst (λ (n : ℕ). n ≤ 3) (count_of-map (mapped mappings) d (mapped_code_points (mapped mappings) mappings)) (few d))

pub large_from_targets : (mappings : List FoldEntry) (d : ℕ) → IsTrue (is_in_order mappings) → mapped mappings d ≡ d → 4 ≤ count_of d (targets mappings) →
    ¬ HasSmallClasses (mapped mappings)
large_from_targets mappings d order own many =
    large_from_count mappings d order own (subst (λ (n : ℕ). 4 ≤ n) (count_of-map (mapped mappings) d (mapped_code_points (mapped mappings) mappings)) many)

-- a number that is not in the list occurs zero times
pub count_of_absent : (d : ℕ) (xs : List ℕ) → lists xs d ≡ false → count_of d xs ≡ 0
count_of_absent d [] h = refl
count_of_absent d (x ∷ xs) h =
    let other : (x == d) ≡ false = grind (arith, nat_tests, h) in
    let later : lists xs d ≡ false = grind (arith, nat_tests, h) in
    rw other (count_of_absent d xs later)

-- ---- the whole mapping

pub mapped_in_range : (mappings : List FoldEntry) (c : ℕ) → IsTrue (are_targets_in_range mappings) → c ≤ code_point_max → mapped mappings c ≤ code_point_max
unfolding mapped
mapped_in_range [] c h le = le
mapped_in_range (mapping ∷ mappings) c h le = by_mapping (is_in_mapping mapping c) refl (mapped_in_range mappings c (grind (arith, nat_tests, h)) le)
  where
    by_mapping : (b : Bool) → is_in_mapping mapping c ≡ b → mapped mappings c ≤ code_point_max → cond b (mapped_in_mapping mapping c) (mapped mappings c) ≤ code_point_max
    by_mapping false e rest = rest
    by_mapping true e rest = by_modulo ((c - mapping.start) % mapping.modulo == 0)
      where
        by_modulo : (b : Bool) → cond b (moved mapping.delta c) c ≤ code_point_max
        by_modulo true = (shifted_is mapping c (grind (arith, nat_tests, h)) e).1
        by_modulo false = le

pub case_map : (mappings : List FoldEntry) → AreValidEntries mappings → IsCaseMapping (mapped mappings)
case_map mappings sound = record {
  idempotent = sound.idempotent;
  in_range = λ c le. mapped_in_range mappings c sound.in_range le;
  small_classes = sound.small_classes;
}

-- ---- after a sort

-- sorting keeps the number of occurrences of each number
pub count_of_sorted : (xs ys : List ℕ) (d : ℕ) → IsStable nat_cmp xs ys → count_of d ys ≡ count_of d xs
count_of_sorted xs ys d stable =
    ap length (filter_agree (λ x. x == d) (ties (λ a b. is_lt (nat_cmp a b)) d) same ys ∙ stable d ∙
    sym (filter_agree (λ x. x == d) (ties (λ a b. is_lt (nat_cmp a b)) d) same xs))
  where
    same : (x : ℕ) → (x == d) ≡ ties (λ a b. is_lt (nat_cmp a b)) d x
    same x = grind (arith, nat_tests)

pub few_after_sort : (xs ys : List ℕ) → IsStable nat_cmp xs ys → IsSorted nat_cmp ys → HasNoFour ys → (d : ℕ) → count_of d xs ≤ 3
few_after_sort xs ys stable sorted no_four d =
    subst (λ (n : ℕ). n ≤ 3) (count_of_sorted xs ys d stable)
    (few_without_four d ys (IsNonDecreasingBy-from_sort (λ x. x) ys sorted) no_four)

pub many_after_sort : (xs ys : List ℕ) (i : ℕ) → IsStable nat_cmp xs ys → IsSorted nat_cmp ys → i + 3 < length ys →
    get_or ys i 0 ≡ get_or ys (i + 3) 0 → (d : ℕ) × (4 ≤ count_of d xs)
many_after_sort xs ys i stable sorted lt same =
    let d : ℕ = get_or ys i 0 in
    let many = many_between d i (i + 3) ys (IsNonDecreasingBy-from_sort (λ x. x) ys sorted) (omega arith) lt refl (sym same) in
    (d, subst (λ (n : ℕ). 4 ≤ n) (count_of_sorted xs ys d stable) (omega (arith, many)))

pub small_classes_from : (mappings : List FoldEntry) (xs : List ℕ) → xs ≡ targets mappings → IsTrue (is_in_order mappings) →
    ((d : ℕ) → count_of d xs ≤ 3) → HasSmallClasses (mapped mappings)
small_classes_from mappings xs is order few =
    small_from_targets mappings order (λ d. subst (λ (ys : List ℕ). count_of d ys ≤ 3) is (few d))

pub large_classes_from : (mappings : List FoldEntry) (xs : List ℕ) (d : ℕ) → xs ≡ targets mappings → IsTrue (is_in_order mappings) →
    IsIdempotent (mapped mappings) → 4 ≤ count_of d xs → ¬ HasSmallClasses (mapped mappings)
large_classes_from mappings xs d is order idempotent many =
    let among = subst (λ (ys : List ℕ). 4 ≤ count_of d ys) is many in
    large_from_targets mappings d order (by_member (lists (targets mappings) d) refl among) among
  where
    by_member : (b : Bool) → lists (targets mappings) d ≡ b → 4 ≤ count_of d (targets mappings) → mapped mappings d ≡ d
    by_member true e among = All-lists (λ x. mapped mappings x ≡ x) (targets mappings) d (targets_from_idempotent mappings idempotent) e
    by_member false e among = absurd (omega (arith, count_of_absent d (targets mappings) e))
