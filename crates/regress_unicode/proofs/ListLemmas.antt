-- Entries in order, and the binary search among them.
use Rattle.std.proofs.Common.{◌≡◌, ℕ, ◌+◌, ◌-◌, ◌<◌, ◌≤◌, false, ◌&&◌, inl, inr, nat_lt, List, [], ◌∷◌, length, get_or, Err, cond, ap, subst, le_refl, le_of_eq, ℤ, pos, negsuc, ◌+ℤ◌, IsTrue, refl, zero, suc, arith}
use Rattle.std.proofs.lemmas.Bool.{cases_lt}
use Rattle.std.proofs.lemmas.Bool.Decides.{nat_tests}
use Rattle.std.proofs.lemmas.Int.{ints}
use Rattle.std.specs.List.Sorted.{IsNonDecreasingBy, IsBinarySearchResult}
use Rattle.std.specs.Ordering.{ordering_index, MatchOrdering}
use Rattle.std.specs.declared.cmp.Ordering.{Ordering}
use Rattle.std.specs.declared.cmp.Ordering.TheVariants.{Less, Equal, Greater}
use Rattle.regress_base.specs.Intervals.{code_point_max}
use Rattle.regress_unicode.specs.FoldEntries.{FoldEntry, moved, is_in_mapping, mapped_in_mapping, mapped}
use Rattle.regress_unicode.specs.ValidEntries.{is_in_order_from, is_in_order, stays_in_range, is_target_in_range, are_targets_in_range}

-- how an entry compares with a number
unfoldable pub position_of_mapping : ℕ → FoldEntry → Ordering
position_of_mapping c mapping = cond (nat_lt c mapping.start) Greater (cond (nat_lt c (mapping.start + mapping.length)) Equal Less)

pub position_of_mapping_reports : (c : ℕ) (mapping : FoldEntry) → MatchOrdering (position_of_mapping c mapping) (mapping.start + mapping.length ≤ c)
    ((mapping.start ≤ c) × (c < mapping.start + mapping.length)) (c < mapping.start)
unfolding position_of_mapping
position_of_mapping_reports c mapping = grind (arith, nat_tests)

-- the conditions of entries in order
pub record OrderParts (low : ℕ) (mapping : FoldEntry) (mappings : List FoldEntry) : Type 0 where
  pub above : low ≤ mapping.start
  pub rest : IsTrue (is_in_order_from (mapping.start + mapping.length) mappings)

pub order_parts : (low : ℕ) (mapping : FoldEntry) (mappings : List FoldEntry) → IsTrue (is_in_order_from low (mapping ∷ mappings)) → OrderParts low mapping mappings
order_parts low mapping mappings h = grind (arith, nat_tests)

-- a number below all entries is in no range
pub below_mapped : (low : ℕ) (mappings : List FoldEntry) (c : ℕ) → IsTrue (is_in_order_from low mappings) → c < low → mapped mappings c ≡ c
unfolding mapped
below_mapped low [] c h lt = refl
below_mapped low (mapping ∷ mappings) c h lt =
    let parts = order_parts low mapping mappings h in
    let rest : mapped mappings c ≡ c = below_mapped (mapping.start + mapping.length) mappings c parts.rest (omega (arith, parts.above)) in
    grind (arith, nat_tests, parts.above, rest)

-- each entry begins at `low` or above
pub order_at : (low : ℕ) (mappings : List FoldEntry) (k : ℕ) (d : FoldEntry) → IsTrue (is_in_order_from low mappings) → k < length mappings →
    low ≤ (get_or mappings k d).start
order_at low [] k d h lt = absurd (omega arith)
order_at low (mapping ∷ mappings) zero d h lt = (order_parts low mapping mappings h).above
order_at low (mapping ∷ mappings) (suc k) d h lt =
    let parts = order_parts low mapping mappings h in
    let rest = order_at (mapping.start + mapping.length) mappings k d parts.rest (omega arith) in
    omega (arith, parts.above, rest)

-- an entry ends before a later one begins
pub order_apart : (low : ℕ) (mappings : List FoldEntry) (i j : ℕ) (d : FoldEntry) → IsTrue (is_in_order_from low mappings) → i < j → j < length mappings →
    (get_or mappings i d).start + (get_or mappings i d).length ≤ (get_or mappings j d).start
order_apart low [] i j d h lt inside = absurd (omega arith)
order_apart low (mapping ∷ mappings) i zero d h lt inside = absurd (omega arith)
order_apart low (mapping ∷ mappings) zero (suc j) d h lt inside = order_at (mapping.start + mapping.length) mappings j d (order_parts low mapping mappings h).rest
    (omega arith)
order_apart low (mapping ∷ mappings) (suc i) (suc j) d h lt inside = order_apart (mapping.start + mapping.length) mappings i j d
    (order_parts low mapping mappings h).rest (omega arith) (omega arith)

pub target_at : (mappings : List FoldEntry) (k : ℕ) (d : FoldEntry) → IsTrue (are_targets_in_range mappings) → k < length mappings →
    IsTrue (is_target_in_range (get_or mappings k d))
target_at [] k d h lt = absurd (omega arith)
target_at (mapping ∷ mappings) zero d h lt = grind (arith, nat_tests)
target_at (mapping ∷ mappings) (suc k) d h lt = target_at mappings k d (grind (arith, nat_tests)) (omega arith)

-- the entry with a number in its range determines what it is mapped to
pub mapped_at : (low : ℕ) (mappings : List FoldEntry) (k : ℕ) (d : FoldEntry) (c : ℕ) → IsTrue (is_in_order_from low mappings) → k < length mappings →
    IsTrue (is_in_mapping (get_or mappings k d) c) → mapped mappings c ≡ mapped_in_mapping (get_or mappings k d) c
unfolding mapped
mapped_at low [] k d c h lt within = absurd (omega arith)
mapped_at low (mapping ∷ mappings) zero d c h lt within = grind (arith, nat_tests)
mapped_at low (mapping ∷ mappings) (suc k) d c h lt within =
    let parts = order_parts low mapping mappings h in
    let rest = mapped_at (mapping.start + mapping.length) mappings k d c parts.rest (omega arith) within in
    let above = order_at (mapping.start + mapping.length) mappings k d parts.rest (omega arith) in
    let beyond : is_in_mapping mapping c ≡ false = grind (arith, nat_tests, above) in
    rw beyond rest

pub mapped_nowhere : (mappings : List FoldEntry) (c : ℕ) (d : FoldEntry) → ((k : ℕ) → k < length mappings → is_in_mapping (get_or mappings k d) c ≡ false) →
    mapped mappings c ≡ c
unfolding mapped
mapped_nowhere [] c d h = refl
mapped_nowhere (mapping ∷ mappings) c d h = rw (h zero (omega arith)) (mapped_nowhere mappings c d (λ k lt. h (suc k) (omega arith)))

-- the result of the delta for a number of the range
pub shifted_is : (mapping : FoldEntry) (c : ℕ) → IsTrue (is_target_in_range mapping) → IsTrue (is_in_mapping mapping c) →
    (pos c +ℤ mapping.delta ≡ pos (moved mapping.delta c)) × (moved mapping.delta c ≤ code_point_max)
shifted_is mapping c target within = by_delta mapping.delta (grind (arith, nat_tests)) (grind (arith, nat_tests)) (grind (arith, nat_tests))
  where
    by_delta : (delta : ℤ) → IsTrue (stays_in_range delta mapping.start && stays_in_range delta (mapping.start + mapping.length - 1)) →
        mapping.start ≤ c → c < mapping.start + mapping.length → (pos c +ℤ delta ≡ pos (moved delta c)) × (moved delta c ≤ code_point_max)
    by_delta (pos n) t low high = grind (arith, nat_tests)
    by_delta (negsuc n) t low high = grind (arith, nat_tests, ints)

-- ---- the binary search

no_mapping : FoldEntry
no_mapping = record { start = 0; length = 0; delta = pos 0; modulo = 1 }

pub mapping-Equal : (c : ℕ) (mapping : FoldEntry) → position_of_mapping c mapping ≡ Equal → IsTrue (is_in_mapping mapping c)
mapping-Equal c mapping e =
    let reports = subst (λ (o : Ordering). MatchOrdering o (mapping.start + mapping.length ≤ c) ((mapping.start ≤ c) × (c < mapping.start + mapping.length))
    (c < mapping.start)) e (position_of_mapping_reports c mapping) in
    grind (arith, nat_tests, reports.0, reports.1)

mapping-Less : (c : ℕ) (mapping : FoldEntry) → position_of_mapping c mapping ≡ Less → is_in_mapping mapping c ≡ false
mapping-Less c mapping e =
    let reports = subst (λ (o : Ordering). MatchOrdering o (mapping.start + mapping.length ≤ c) ((mapping.start ≤ c) × (c < mapping.start + mapping.length))
    (c < mapping.start)) e (position_of_mapping_reports c mapping) in
    grind (arith, nat_tests, reports)

mapping-Greater : (c : ℕ) (mapping : FoldEntry) → position_of_mapping c mapping ≡ Greater → is_in_mapping mapping c ≡ false
mapping-Greater c mapping e =
    let reports = subst (λ (o : Ordering). MatchOrdering o (mapping.start + mapping.length ≤ c) ((mapping.start ≤ c) × (c < mapping.start + mapping.length))
    (c < mapping.start)) e (position_of_mapping_reports c mapping) in
    grind (arith, nat_tests, reports)

-- an entry compares no later than one after it
mapping_position_rises : (c : ℕ) (a b : FoldEntry) → a.start + a.length ≤ b.start →
    ordering_index (position_of_mapping c a) ≤ ordering_index (position_of_mapping c b)
mapping_position_rises c a b apart = by_positions (position_of_mapping c a) (position_of_mapping c b) (position_of_mapping_reports c a) (position_of_mapping_reports c b)
  where
    by_positions : (x y : Ordering) → MatchOrdering x (a.start + a.length ≤ c) ((a.start ≤ c) × (c < a.start + a.length)) (c < a.start) →
        MatchOrdering y (b.start + b.length ≤ c) ((b.start ≤ c) × (c < b.start + b.length)) (c < b.start) →
        ordering_index x ≤ ordering_index y
    by_positions Less y s t = omega arith
    by_positions Equal Less s t = absurd (omega (arith, s.0, s.1, t))
    by_positions Equal Equal s t = le_refl 1
    by_positions Equal Greater s t = omega arith
    by_positions Greater Less s t = absurd (omega (arith, s, t))
    by_positions Greater Equal s t = absurd (omega (arith, s, t.0))
    by_positions Greater Greater s t = le_refl 2

-- along entries in order the results of the comparison do not decrease
mappings_rise : (c : ℕ) (mappings : List FoldEntry) → IsTrue (is_in_order mappings) → IsNonDecreasingBy (λ mapping. ordering_index (position_of_mapping c mapping)) mappings
mappings_rise c mappings h i j d le lt =
    elim (cases_lt i j) [
      | inl before ↦ mapping_position_rises c (get_or mappings i d) (get_or mappings j d) (order_apart 0 mappings i j d h before lt)
      | inr not_before ↦ (let same : i ≡ j = omega arith in le_of_eq (ap (λ k. ordering_index (position_of_mapping c (get_or mappings k d))) same))
    ]

-- a number for which the search finds no entry is mapped to itself
pub not_found_mapped : (c : ℕ) (mappings : List FoldEntry) (i : ℕ) → IsTrue (is_in_order mappings) →
    IsBinarySearchResult (position_of_mapping c) mappings (Err i) → mapped mappings c ≡ c
not_found_mapped c mappings i h at =
    let parts = at (mappings_rise c mappings h) in
    mapped_nowhere mappings c no_mapping (λ k lt. elim (cases_lt k i) [
      | inl before ↦ mapping-Less c _ (parts.0 k no_mapping (omega arith) before)
      | inr after ↦ mapping-Greater c _ (parts.1 k no_mapping after lt)
    ])
