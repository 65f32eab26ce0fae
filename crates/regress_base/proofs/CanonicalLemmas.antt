-- Properties of canonical lists.
use Rattle.std.proofs.Common.{◌≡◌, ℕ, ◌+◌, ◌<◌, ◌≤◌, true, false, inl, inr, IsTrue, nat_le, List, [], ◌∷◌, ◌++◌, length, drop, get_or, refl, ◌∙◌, sym, suc, zero, le_refl, le_of_suc-le-suc, not-suc-le-zero, arith, leb-true}
use Rattle.std.proofs.lemmas.Bool.{and_parts, and_from, or_cases, le-leb, false≢true, false_from_ne_true}
use Rattle.regress_base.specs.Intervals.{Bounds, IsInterval, code_point_max, is_within, is_member, is_canonical_from, IsCanonical}
use Rattle.regress_base.proofs.WithinLemmas.{is_within-true}
use Rattle.regress_base.proofs.MemberLemmas.{is_member-nil, is_member-cons}

-- what a canonical list states of its first interval and of the others
pub record CanonicalParts (low : ℕ) (iv : Bounds) (ivs : List Bounds) : Type 0 where
  pub above : low ≤ iv.first
  pub interval : IsInterval iv
  pub rest : IsTrue (is_canonical_from (iv.last + 2) ivs)

pub canonical_parts : (low : ℕ) (iv : Bounds) (ivs : List Bounds) → IsTrue (is_canonical_from low (iv ∷ ivs)) → CanonicalParts low iv ivs
canonical_parts low iv ivs h =
    let a = and_parts (nat_le low iv.first) _ h in
    let b = and_parts (nat_le iv.first iv.last) _ a.1 in
    let d = and_parts (nat_le iv.last code_point_max) _ b.1 in
    record {
      above = leb-true low iv.first a.0;
      interval = record { ordered = leb-true iv.first iv.last b.0; in_range = leb-true iv.last code_point_max d.0 };
      rest = d.1;
    }

pub canonical_cons : (low : ℕ) (iv : Bounds) (ivs : List Bounds) → CanonicalParts low iv ivs → IsTrue (is_canonical_from low (iv ∷ ivs))
canonical_cons low iv ivs p =
    and_from (nat_le low iv.first) _ (le-leb low iv.first p.above)
    (and_from (nat_le iv.first iv.last) _ (le-leb iv.first iv.last p.interval.ordered)
    (and_from (nat_le iv.last code_point_max) _ (le-leb iv.last code_point_max p.interval.in_range) p.rest))

-- a list is canonical from any lower bound
pub canonical_lower : (low low' : ℕ) (ivs : List Bounds) → low' ≤ low → IsTrue (is_canonical_from low ivs)
    → IsTrue (is_canonical_from low' ivs)
canonical_lower low low' [] h can = refl
canonical_lower low low' (iv ∷ ivs) h can =
    let p = canonical_parts low iv ivs can in
    canonical_cons low' iv ivs (record { above = omega arith; interval = p.interval; rest = p.rest })

-- a list is canonical from the start of its first interval
pub from_first : (low : ℕ) (iv : Bounds) (ivs : List Bounds) → IsTrue (is_canonical_from low (iv ∷ ivs))
    → IsTrue (is_canonical_from iv.first (iv ∷ ivs))
from_first low iv ivs can =
    let p = canonical_parts low iv ivs can in
    canonical_cons iv.first iv ivs (record { above = le_refl iv.first; interval = p.interval; rest = p.rest })

-- the least number at which the next interval can begin
unfoldable pub next_low : ℕ → List Bounds → ℕ
next_low low [] = low
next_low low (iv ∷ ivs) = next_low (iv.last + 2) ivs

pub next_low-nil : (low : ℕ) → next_low low [] ≡ low
unfolding next_low
next_low-nil low = refl

pub next_low-push : (low : ℕ) (xs : List Bounds) (iv : Bounds) → next_low low (xs ++ iv ∷ []) ≡ iv.last + 2
unfolding next_low
next_low-push low [] iv = refl
next_low-push low (x ∷ xs) iv = next_low-push (x.last + 2) xs iv

pub canonical_append : (low : ℕ) (xs ys : List Bounds) → IsTrue (is_canonical_from low xs)
    → IsTrue (is_canonical_from (next_low low xs) ys) → IsTrue (is_canonical_from low (xs ++ ys))
unfolding next_low
canonical_append low [] ys a b = b
canonical_append low (x ∷ xs) ys a b =
    let p = canonical_parts low x xs a in
    canonical_cons low x (xs ++ ys) (record { above = p.above; interval = p.interval; rest = canonical_append (x.last + 2) xs ys p.rest b })

pub canonical_front : (low : ℕ) (xs ys : List Bounds) → IsTrue (is_canonical_from low (xs ++ ys)) → IsTrue (is_canonical_from low xs)
canonical_front low [] ys can = refl
canonical_front low (x ∷ xs) ys can =
    let p = canonical_parts low x (xs ++ ys) can in
    canonical_cons low x xs (record { above = p.above; interval = p.interval; rest = canonical_front (x.last + 2) xs ys p.rest })

pub canonical_back : (low : ℕ) (xs ys : List Bounds) → IsTrue (is_canonical_from low (xs ++ ys))
    → IsTrue (is_canonical_from (next_low low xs) ys)
unfolding next_low
canonical_back low [] ys can = can
canonical_back low (x ∷ xs) ys can = canonical_back (x.last + 2) xs ys (canonical_parts low x (xs ++ ys) can).rest

-- the interval at an index
pub record CanonicalAt (low : ℕ) (iv : Bounds) : Type 0 where
  pub above : low ≤ iv.first
  pub interval : IsInterval iv

pub canonical_at : (low : ℕ) (ivs : List Bounds) (k : ℕ) (d : Bounds) → IsTrue (is_canonical_from low ivs) → k < length ivs
    → CanonicalAt low (get_or ivs k d)
canonical_at low [] k d can h = absurd (not-suc-le-zero h)
canonical_at low (iv ∷ ivs) zero d can h =
    let p = canonical_parts low iv ivs can in record { above = p.above; interval = p.interval }
canonical_at low (iv ∷ ivs) (suc k) d can h =
    let p = canonical_parts low iv ivs can in
    let rest = canonical_at (iv.last + 2) ivs k d p.rest (le_of_suc-le-suc h) in
    record { above = canonical_at_low low iv (get_or ivs k d) p rest; interval = rest.interval }
  where
    canonical_at_low : (low : ℕ) (iv at : Bounds) → CanonicalParts low iv ivs → CanonicalAt (iv.last + 2) at → low ≤ at.first
    canonical_at_low low iv at p rest = omega (arith, p.above, p.interval.ordered, rest.above)

-- between two intervals at least one code point is missing
pub canonical_apart : (low : ℕ) (ivs : List Bounds) (i j : ℕ) (d : Bounds) → IsTrue (is_canonical_from low ivs) → i < j → j < length ivs
    → (get_or ivs i d).last + 1 < (get_or ivs j d).first
canonical_apart low [] i j d can lt h = absurd (not-suc-le-zero h)
canonical_apart low (iv ∷ ivs) i zero d can lt h = absurd (not-suc-le-zero lt)
canonical_apart low (iv ∷ ivs) zero (suc j) d can lt h =
    let rest = canonical_at (iv.last + 2) ivs j d (canonical_parts low iv ivs can).rest (le_of_suc-le-suc h) in
    let above = rest.above in omega arith
canonical_apart low (iv ∷ ivs) (suc i) (suc j) d can lt h =
    canonical_apart (iv.last + 2) ivs i j d (canonical_parts low iv ivs can).rest (le_of_suc-le-suc lt) (le_of_suc-le-suc h)

-- every member is at the lower bound or above it
pub member_above : (low : ℕ) (ivs : List Bounds) (c : ℕ) → IsTrue (is_canonical_from low ivs) → is_member ivs c ≡ true
    → (low ≤ c) × (c ≤ code_point_max)
member_above low [] c can h = absurd (false≢true (sym (is_member-nil c) ∙ h))
member_above low (iv ∷ ivs) c can h =
    let p = canonical_parts low iv ivs can in
    elim (or_cases (is_within iv c) (is_member ivs c) (sym (is_member-cons iv ivs c) ∙ h)) [
      | inl within ↦ (let w = is_within-true iv c within in (omega (arith, p.above), omega (arith, p.interval.in_range)))
      | inr later ↦ (let r = member_above (iv.last + 2) ivs c p.rest later in (omega (arith, p.above, p.interval.ordered), r.1))
    ]

pub no_member_below : (low : ℕ) (ivs : List Bounds) (c : ℕ) → IsTrue (is_canonical_from low ivs) → c < low → is_member ivs c ≡ false
no_member_below low ivs c can h =
    false_from_ne_true _ (λ t. let above = member_above low ivs c can t in omega arith)

pub no_member_past_end : (ivs : List Bounds) (c : ℕ) → IsCanonical ivs → code_point_max < c → is_member ivs c ≡ false
no_member_past_end ivs c can h =
    false_from_ne_true _ (λ t. let above = member_above 0 ivs c can t in omega arith)

-- the intervals after an index are canonical
pub canonical_after : (low : ℕ) (ivs : List Bounds) (i : ℕ) (d : Bounds) → IsTrue (is_canonical_from low ivs) → i < length ivs
    → IsTrue (is_canonical_from ((get_or ivs i d).last + 2) (drop (suc i) ivs))
canonical_after low [] i d can h = absurd (not-suc-le-zero h)
canonical_after low (iv ∷ ivs) zero d can h = (canonical_parts low iv ivs can).rest
canonical_after low (iv ∷ ivs) (suc i) d can h =
    canonical_after (iv.last + 2) ivs i d (canonical_parts low iv ivs can).rest (le_of_suc-le-suc h)
