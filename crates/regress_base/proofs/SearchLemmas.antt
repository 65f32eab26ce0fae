-- Binary searches in canonical lists.
use Rattle.std.proofs.Common.{◌≡◌, ℕ, ◌+◌, ◌<◌, ◌≤◌, true, false, inl, inr, nat_lt, List, length, get_or, Result, Ok, Err, cond, sym, ap, subst, le_refl, le_of_eq, arith}
use Rattle.std.proofs.lemmas.Bool.{cases_lt}
use Rattle.std.proofs.lemmas.Bool.Decides.{nat_tests}
use Rattle.std.specs.List.Sorted.{IsNonDecreasingBy, IsBinarySearchResult, IsSearchInRange}
use Rattle.std.specs.Ordering.{ordering_index, MatchOrdering}
use Rattle.std.specs.Result.{is_ok}
use Rattle.std.specs.declared.cmp.Ordering.{Ordering}
use Rattle.std.specs.declared.cmp.Ordering.TheVariants.{Less, Equal, Greater}
use Rattle.regress_base.specs.Intervals.{Bounds, IsInterval, is_within, is_member, IsCanonical}
use Rattle.regress_base.proofs.WithinLemmas.{le-is_within, lt-is_within, gt-is_within}
use Rattle.regress_base.proofs.MemberLemmas.{is_member-at, is_member-nowhere}
use Rattle.regress_base.proofs.CanonicalLemmas.{canonical_at, canonical_apart}

abbrev no_bounds : Bounds
no_bounds = record { first = 0; last = 0 }

-- how an interval compares with a number
unfoldable pub position_of : ℕ → Bounds → Ordering
position_of c iv = cond (nat_lt c iv.first) Greater (cond (nat_lt iv.last c) Less Equal)

pub position_of_reports : (c : ℕ) (iv : Bounds) → MatchOrdering (position_of c iv) (iv.last < c) ((iv.first ≤ c) × (c ≤ iv.last)) (c < iv.first)
unfolding position_of
position_of_reports c iv = grind (arith, nat_tests)

pub position_of-Equal : (c : ℕ) (iv : Bounds) → position_of c iv ≡ Equal → is_within iv c ≡ true
position_of-Equal c iv e =
    let reports = subst (λ (o : Ordering). MatchOrdering o (iv.last < c) ((iv.first ≤ c) × (c ≤ iv.last)) (c < iv.first)) e
    (position_of_reports c iv) in
    le-is_within iv c reports.0 reports.1

pub position_of-Less : (c : ℕ) (iv : Bounds) → position_of c iv ≡ Less → is_within iv c ≡ false
position_of-Less c iv e =
    gt-is_within iv c (subst (λ (o : Ordering). MatchOrdering o (iv.last < c) ((iv.first ≤ c) × (c ≤ iv.last)) (c < iv.first)) e
    (position_of_reports c iv))

pub position_of-Greater : (c : ℕ) (iv : Bounds) → position_of c iv ≡ Greater → is_within iv c ≡ false
position_of-Greater c iv e =
    lt-is_within iv c (subst (λ (o : Ordering). MatchOrdering o (iv.last < c) ((iv.first ≤ c) × (c ≤ iv.last)) (c < iv.first)) e
    (position_of_reports c iv))

-- an interval compares no later than one after it
position_of-rises : (c : ℕ) (a b : Bounds) → IsInterval a → IsInterval b → a.last + 1 < b.first
    → ordering_index (position_of c a) ≤ ordering_index (position_of c b)
position_of-rises c a b ha hb apart = by_positions (position_of c a) (position_of c b) (position_of_reports c a) (position_of_reports c b)
  where
    by_positions : (x y : Ordering) → MatchOrdering x (a.last < c) ((a.first ≤ c) × (c ≤ a.last)) (c < a.first)
        → MatchOrdering y (b.last < c) ((b.first ≤ c) × (c ≤ b.last)) (c < b.first) → ordering_index x ≤ ordering_index y
    by_positions Less y s t = omega arith
    by_positions Equal Less s t = absurd (omega (arith, ha.ordered, hb.ordered, s.0, s.1, t))
    by_positions Equal Equal s t = le_refl 1
    by_positions Equal Greater s t = omega arith
    by_positions Greater Less s t = absurd (omega (arith, ha.ordered, hb.ordered, s, t))
    by_positions Greater Equal s t = absurd (omega (arith, ha.ordered, hb.ordered, s, t.0))
    by_positions Greater Greater s t = le_refl 2

-- along a canonical list the results of the comparison do not decrease
pub comparisons_rise : (c : ℕ) (ivs : List Bounds) → IsCanonical ivs → IsNonDecreasingBy (λ iv. ordering_index (position_of c iv)) ivs
comparisons_rise c ivs can i j d le lt =
    elim (cases_lt i j) [
      | inl before ↦ position_of-rises c (get_or ivs i d) (get_or ivs j d) (canonical_at 0 ivs i d can (omega arith)).interval
          (canonical_at 0 ivs j d can lt).interval (canonical_apart 0 ivs i j d can before lt)
      | inr not_before ↦ (let same : i ≡ j = omega arith in le_of_eq (ap (λ k. ordering_index (position_of c (get_or ivs k d))) same))
    ]

-- a search for a code point succeeds if and only if it is a member
pub found_member : (ivs : List Bounds) (c : ℕ) (r : Result ℕ ℕ) → IsCanonical ivs → IsSearchInRange r (length ivs)
    → IsBinarySearchResult (position_of c) ivs r → is_ok r ≡ is_member ivs c
found_member ivs c (Ok i) can bound at = sym (is_member-at ivs i c no_bounds bound (position_of-Equal c _ (at no_bounds)))
found_member ivs c (Err i) can bound at =
    let parts = at (comparisons_rise c ivs can) in
    sym (is_member-nowhere ivs c no_bounds (λ k lt. elim (cases_lt k i) [
      | inl before ↦ position_of-Less c _ (parts.0 k no_bounds (omega arith) before)
      | inr after ↦ position_of-Greater c _ (parts.1 k no_bounds after lt)
    ]))
