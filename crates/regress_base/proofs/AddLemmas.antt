-- A canonical list after one interval is added.
use Rattle.std.proofs.Common.{◌≡◌, ℕ, ◌+◌, ◌-◌, ◌<◌, ◌≤◌, inl, inr, List, length, get_or, ap, ◌∙◌, sym, subst, nat_lt, cond, le_refl, le_of_eq, Some, slice_get, arith}
use Rattle.std.proofs.lemmas.Option.{slice_get_within, get_or_from_slice_get}
use Rattle.std.proofs.lemmas.Bool.{cases_lt}
use Rattle.std.proofs.lemmas.List.{get_or_default}
use Rattle.std.proofs.lemmas.Bool.Decides.{nat_tests}
use Rattle.std.specs.List.Sorted.{IsNonDecreasingBy}
use Rattle.std.specs.Ordering.{ordering_index, MatchOrdering}
use Rattle.std.specs.declared.cmp.Ordering.{Ordering}
use Rattle.std.specs.declared.cmp.Ordering.TheVariants.{Less, Equal, Greater}
use Rattle.regress_base.specs.Ranges.{IsEqualRange}
use Rattle.regress_base.specs.Intervals.{Bounds, IsInterval, IsCanonical, Touches, IsTouchingRange}
use Rattle.regress_base.proofs.CanonicalLemmas.{canonical_at, canonical_apart}

-- how an interval compares with another one, where touching intervals are equal
unfoldable pub compare_touching : Bounds → Bounds → Ordering
compare_touching iv old = cond (nat_lt (old.last + 1) iv.first) Less (cond (nat_lt (iv.last + 1) old.first) Greater Equal)

pub merge_position_reports : (iv old : Bounds)
    → MatchOrdering (compare_touching iv old) (old.last + 1 < iv.first) ((iv.first ≤ old.last + 1) × (old.first ≤ iv.last + 1))
    (iv.last + 1 < old.first)
unfolding compare_touching
merge_position_reports iv old = grind (arith, nat_tests)

-- an interval compares no later than one after it
compare_touching-rises : (iv a b : Bounds) → IsInterval iv → IsInterval a → IsInterval b → a.last + 1 < b.first
    → ordering_index (compare_touching iv a) ≤ ordering_index (compare_touching iv b)
compare_touching-rises iv a b hi ha hb apart = by_positions (compare_touching iv a) (compare_touching iv b) (merge_position_reports iv a) (merge_position_reports iv b)
  where
    by_positions : (x y : Ordering)
        → MatchOrdering x (a.last + 1 < iv.first) ((iv.first ≤ a.last + 1) × (a.first ≤ iv.last + 1)) (iv.last + 1 < a.first)
        → MatchOrdering y (b.last + 1 < iv.first) ((iv.first ≤ b.last + 1) × (b.first ≤ iv.last + 1)) (iv.last + 1 < b.first)
        → ordering_index x ≤ ordering_index y
    by_positions Less y s t = omega arith
    by_positions Equal Less s t = absurd (omega (arith, hb.ordered, s.0, t))
    by_positions Equal Equal s t = le_refl 1
    by_positions Equal Greater s t = omega arith
    by_positions Greater Less s t = absurd (omega (arith, hi.ordered, ha.ordered, hb.ordered, s, t))
    by_positions Greater Equal s t = absurd (omega (arith, ha.ordered, s, t.1))
    by_positions Greater Greater s t = le_refl 2

pub merge_positions_rise : (iv : Bounds) (ivs : List Bounds) → IsInterval iv → IsCanonical ivs
    → IsNonDecreasingBy (λ old. ordering_index (compare_touching iv old)) ivs
merge_positions_rise iv ivs hi can i j d le lt =
    elim (cases_lt i j) [
      | inl before ↦ compare_touching-rises iv (get_or ivs i d) (get_or ivs j d) hi (canonical_at 0 ivs i d can (omega arith)).interval
          (canonical_at 0 ivs j d can lt).interval (canonical_apart 0 ivs i j d can before lt)
      | inr not_before ↦ (let same : i ≡ j = omega arith in le_of_eq (ap (λ k. ordering_index (compare_touching iv (get_or ivs k d))) same))
    ]

placed : (iv old : Bounds) (o : Ordering) → compare_touching iv old ≡ o
    → MatchOrdering o (old.last + 1 < iv.first) ((iv.first ≤ old.last + 1) × (old.first ≤ iv.last + 1)) (iv.last + 1 < old.first)
placed iv old o e =
    subst (λ (p : Ordering). MatchOrdering p (old.last + 1 < iv.first) ((iv.first ≤ old.last + 1) × (old.first ≤ iv.last + 1))
    (iv.last + 1 < old.first)) e (merge_position_reports iv old)

-- the range of the intervals that compare as equal is the touching range
pub touching-from_equal_range : (ivs : List Bounds) (iv : Bounds) (start end : ℕ) → IsEqualRange (compare_touching iv) ivs start end
    → IsTouchingRange ivs iv start end
touching-from_equal_range ivs iv start end range = record {
  in_order = range.in_order;
  in_bounds = range.in_bounds;
  before = λ k d from to. placed iv (get_or ivs k d) Less (range.less k d from to);
  touching = λ k d from to.
      let t = placed iv (get_or ivs k d) Equal (range.equal k d from to) in record { not_before = t.0; not_after = t.1 };
  after = λ k d from to. placed iv (get_or ivs k d) Greater (range.greater k d from to);
}

-- the last interval of a list, which begins after the end of each earlier one, with a gap between
pub record LastAt (ivs : List Bounds) (last : Bounds) : Type 0 where
  pub some : 0 < length ivs
  pub here : (d : Bounds) → get_or ivs (length ivs - 1) d ≡ last
  pub interval : IsInterval last
  pub beyond : (k : ℕ) (d : Bounds) → k < length ivs - 1 → (get_or ivs k d).last + 1 < last.first

pub last_at : (ivs : List Bounds) (last : Bounds) → IsCanonical ivs → slice_get ivs (length ivs - 1) ≡ Some last → LastAt ivs last
last_at ivs last can at =
    let inside = slice_get_within ivs (length ivs - 1) last at in
    let here = λ (d : Bounds). get_or_from_slice_get ivs (length ivs - 1) last d at in
    record {
      some = omega arith;
      here = here;
      interval = subst IsInterval (here last) (canonical_at 0 ivs (length ivs - 1) last can inside).interval;
      beyond = λ k d before. (let P : Bounds → Type 0 = λ b. (get_or ivs k d).last + 1 < b.first in
          subst P (here d) (canonical_apart 0 ivs k (length ivs - 1) d can before inside));
    }

-- the touching range of an interval after the last one
pub touching-after_all : (ivs : List Bounds) (iv last : Bounds) → IsCanonical ivs → slice_get ivs (length ivs - 1) ≡ Some last
    → last.last + 1 < iv.first → IsTouchingRange ivs iv (length ivs) (length ivs)
touching-after_all ivs iv last can at after =
    let l = last_at ivs last can at in
    let ordered = l.interval.ordered in
    record {
      in_order = le_refl (length ivs);
      in_bounds = le_refl (length ivs);
      before = λ k d from to. elim (cases_lt k (length ivs - 1)) [
        | inl earlier ↦ (let beyond = l.beyond k d earlier in omega arith)
        | inr not_earlier ↦ (let P : Bounds → Type 0 = λ b. b.last + 1 < iv.first in
            let same : k ≡ length ivs - 1 = omega (arith, l.some) in
            subst P (sym (ap (λ n. get_or ivs n d) same ∙ l.here d)) after)
      ];
      touching = λ k d from to. absurd (omega arith);
      after = λ k d from to. absurd (omega arith);
    }

-- the touching range of an interval before the first one
pub touching-before_all : (ivs : List Bounds) (iv head : Bounds) → IsCanonical ivs → 0 < length ivs → head ≡ get_or ivs 0 head
    → iv.last + 1 < head.first → IsTouchingRange ivs iv 0 0
touching-before_all ivs iv head can some here after = record {
  in_order = le_refl 0;
  in_bounds = omega arith;
  before = λ k d from to. absurd (omega arith);
  touching = λ k d from to. absurd (omega arith);
  after = λ k d from to. (let here_too = here ∙ get_or_default ivs 0 head d some in
      let ordered = (canonical_at 0 ivs 0 d can some).interval.ordered in
      let at : head.first ≡ (get_or ivs 0 d).first = ap (λ (b : Bounds). b.first) here_too in
      elim (cases_lt 0 k) [
        | inl later ↦ (let beyond = canonical_apart 0 ivs 0 k d can later to in omega arith)
        | inr not_later ↦ (let same : k ≡ 0 = omega arith in
            subst (λ n. iv.last + 1 < (get_or ivs n d).first) (sym same) (omega arith))
      ]);
}

-- the touching range of an interval between the last one and the one before it
pub touching-before_last : (ivs : List Bounds) (iv before last : Bounds) → IsCanonical ivs → 1 < length ivs
    → before ≡ get_or ivs (length ivs - 2) before → last ≡ get_or ivs (length ivs - 1) last
    → before.last + 1 < iv.first → iv.last + 1 < last.first → IsTouchingRange ivs iv (length ivs - 1) (length ivs - 1)
touching-before_last ivs iv before last can two before_at last_at after ahead = record {
  in_order = le_refl (length ivs - 1);
  in_bounds = omega arith;
  before = λ k d from to. (let at : before.last ≡ (get_or ivs (length ivs - 2) d).last =
      ap (λ (b : Bounds). b.last) (before_at ∙ get_or_default ivs (length ivs - 2) before d (omega arith)) in
      elim (cases_lt k (length ivs - 2)) [
        | inl earlier ↦ (let apart = canonical_apart 0 ivs k (length ivs - 2) d can earlier (omega arith) in
            let ordered = (canonical_at 0 ivs (length ivs - 2) d can (omega arith)).interval.ordered in omega arith)
        | inr not_earlier ↦ (let same : k ≡ length ivs - 2 = omega arith in
            subst (λ n. (get_or ivs n d).last + 1 < iv.first) (sym same) (omega arith))
      ]);
  touching = λ k d from to. absurd (omega arith);
  after = λ k d from to. (let same : k ≡ length ivs - 1 = omega arith in
      let at : last.first ≡ (get_or ivs (length ivs - 1) d).first =
      ap (λ (b : Bounds). b.first) (last_at ∙ get_or_default ivs (length ivs - 1) last d (omega arith)) in
      subst (λ n. iv.last + 1 < (get_or ivs n d).first) (sym same) (omega arith));
}

-- the touching range of an interval that begins in the last one
pub touching-in_last : (ivs : List Bounds) (iv last : Bounds) → IsCanonical ivs → iv.first ≤ iv.last
    → slice_get ivs (length ivs - 1) ≡ Some last → iv.first ≤ last.last + 1 → last.first ≤ iv.first
    → IsTouchingRange ivs iv (length ivs - 1) (length ivs)
touching-in_last ivs iv last can ordered at reaches from_last =
    let l = last_at ivs last can at in
    record {
      in_order = omega arith;
      in_bounds = le_refl (length ivs);
      before = λ k d from to. (let beyond = l.beyond k d to in omega arith);
      touching = λ k d from to. (let same : k ≡ length ivs - 1 = omega arith in
          subst (Touches iv) (sym (ap (λ n. get_or ivs n d) same ∙ l.here d)) (record { not_before = reaches; not_after = omega arith }));
      after = λ k d from to. absurd (omega arith);
    }
