-- A range of a canonical list, replaced by a part of its members.
use Rattle.std.proofs.Common.{◌≡◌, ℕ, ◌+◌, ◌-◌, ◌≤◌, Bool, true, false, not, ◌||◌, ◌&&◌, inl, inr, ◌⊎◌, IsTrue, List, [], ◌∷◌, ◌++◌, length, take, drop, get_or, slice_get, Some, refl, sym, ap, ap₂, ◌∙◌, subst, le_refl, arith}
use Rattle.std.proofs.lemmas.Bool.{cases_lt, cases_Bool, or_left, or_right, or_cases, and_parts, and_left, false≢true, true≢false, false_from_ne_true}
use Rattle.std.proofs.lemmas.List.{take-append-drop, take-take, drop-take, append_assoc, get_or-take, get_or-drop, length-take-le, length-drop}
use Rattle.std.proofs.lemmas.Option.{none-some, same_Some}
use Rattle.regress_base.specs.Intervals.{Bounds, is_within, is_member, is_canonical_from, IsCanonical, IsComplement, IsTouchingRange, code_point_max}
use Rattle.regress_base.proofs.WithinLemmas.{pair, le-is_within, lt-is_within, gt-is_within, is_within-true}
use Rattle.regress_base.proofs.MemberLemmas.{is_member-nil, is_member-cons, is_member-append, is_member-nowhere}
use Rattle.regress_base.proofs.CanonicalLemmas.{canonical_parts, canonical_cons, canonical_append, canonical_front, canonical_back, canonical_lower, member_above, no_member_past_end, next_low}
use Rattle.regress_base.proofs.JoinLemmas.{between}
use Rattle.regress_base.proofs.AddLemmas.{last_at}

-- ---- fewer members within the same bounds

low_le : (low : ℕ) (xs : List Bounds) → IsTrue (is_canonical_from low xs) → low ≤ next_low low xs
unfolding next_low
low_le low [] can = le_refl low
low_le low (x ∷ xs) can =
    let p = canonical_parts low x xs can in
    let rest = low_le (x.last + 2) xs p.rest in
    omega (arith, p.above, p.interval.ordered, rest)

member_low : (low : ℕ) (xs : List Bounds) (c : ℕ) → IsTrue (is_canonical_from low xs) → is_member xs c ≡ true → c + 2 ≤ next_low low xs
unfolding next_low
member_low low [] c can h = absurd (false≢true (sym (is_member-nil c) ∙ h))
member_low low (x ∷ xs) c can h =
    let p = canonical_parts low x xs can in
    elim (or_cases (is_within x c) (is_member xs c) (sym (is_member-cons x xs c) ∙ h)) [
      | inl within ↦
          let w = is_within-true x c within in
          let rest = low_le (x.last + 2) xs p.rest in
          omega (arith, w.1, rest)
      | inr later ↦ member_low (x.last + 2) xs c p.rest later
    ]

-- the last member bounds where the next interval can begin
last_member : (low : ℕ) (xs : List Bounds) → IsTrue (is_canonical_from low xs)
    → (next_low low xs ≡ low) ⊎ ((c : ℕ) × (is_member xs c ≡ true) × (next_low low xs ≡ c + 2))
unfolding next_low
last_member low [] can = inl refl
last_member low (x ∷ xs) can =
    let p = canonical_parts low x xs can in
    elim (last_member (x.last + 2) xs p.rest) [
      | inl none ↦ inr (x.last, is_member-cons x xs x.last ∙ or_left _ _ (le-is_within x x.last p.interval.ordered (le_refl x.last)), none)
      | inr some ↦ inr (some.0, is_member-cons x xs some.0 ∙ or_right (is_within x some.0) _ some.1, some.2)
    ]

raised : (low : ℕ) (xs ys : List Bounds) → IsTrue (is_canonical_from low xs) → IsCanonical ys
    → ((c : ℕ) → is_member ys c ≡ true → is_member xs c ≡ true) → IsTrue (is_canonical_from low ys)
raised low xs [] can can_ys fewer = refl
raised low xs (y ∷ ys) can can_ys fewer =
    let p = canonical_parts 0 y ys can_ys in
    let first = is_member-cons y ys y.first ∙ or_left _ _ (le-is_within y y.first (le_refl y.first) p.interval.ordered) in
    canonical_cons low y ys (record {
      above = (member_above low xs y.first can (fewer y.first first)).0;
      interval = p.interval;
      rest = p.rest;
    })

bounds_after : (low : ℕ) (xs ys : List Bounds) → IsTrue (is_canonical_from low xs) → IsTrue (is_canonical_from low ys)
    → ((c : ℕ) → is_member ys c ≡ true → is_member xs c ≡ true) → next_low low ys ≤ next_low low xs
bounds_after low xs ys can can_ys fewer =
    elim (last_member low ys can_ys) [
      | inl none ↦ (let le = low_le low xs can in omega (arith, none, le))
      | inr some ↦ (let le = member_low low xs some.0 can (fewer some.0 some.1) in
          let at = some.2 in omega (arith, at, le))
    ]

replaced : (low : ℕ) (xs ys zs : List Bounds) → IsTrue (is_canonical_from low (xs ++ zs)) → IsCanonical ys
    → ((c : ℕ) → is_member ys c ≡ true → is_member xs c ≡ true) → IsTrue (is_canonical_from low (ys ++ zs))
replaced low xs ys zs can can_ys fewer =
    let front = canonical_front low xs zs can in
    let above = raised low xs ys front can_ys fewer in
    canonical_append low ys zs above
    (canonical_lower (next_low low xs) (next_low low ys) zs (bounds_after low xs ys front above fewer) (canonical_back low xs zs can))

-- ---- a list in three parts, with the middle one replaced

module _ (ivs : List Bounds) (start end : ℕ) where
  parts : start ≤ end → take start ivs ++ (between ivs start end ++ drop end ivs) ≡ ivs
  parts in_order =
      sym (append_assoc (take start ivs) (between ivs start end) (drop end ivs))
      ∙ ap (λ l. l ++ drop end ivs)
      (ap (λ l. l ++ between ivs start end) (sym (take-take start end ivs in_order)) ∙ take-append-drop start (take end ivs))
      ∙ take-append-drop end ivs

  pub canonical_between : start ≤ end → IsCanonical ivs → IsCanonical (between ivs start end)
  canonical_between in_order can =
      let whole = subst IsCanonical (sym (parts in_order)) can in
      canonical_lower _ 0 (between ivs start end) (omega arith)
      (canonical_front _ (between ivs start end) (drop end ivs) (canonical_back 0 (take start ivs) _ whole))

  canonical_replaced : (kept : List Bounds) → start ≤ end → IsCanonical ivs → IsCanonical kept
      → ((c : ℕ) → is_member kept c ≡ true → is_member (between ivs start end) c ≡ true)
      → IsCanonical (take start ivs ++ (kept ++ drop end ivs))
  canonical_replaced kept in_order can can_kept fewer =
      let whole = subst IsCanonical (sym (parts in_order)) can in
      canonical_append 0 (take start ivs) (kept ++ drop end ivs) (canonical_front 0 (take start ivs) _ whole)
      (replaced (next_low 0 (take start ivs)) (between ivs start end) kept (drop end ivs) (canonical_back 0 (take start ivs) _ whole)
      can_kept fewer)

-- the middle part is a slice of the list
pub slice_between : (ivs : List Bounds) (start end : ℕ) → start ≤ end → take (end - start) (drop start ivs) ≡ between ivs start end
slice_between ivs start end in_order =
    let whole : start + (end - start) ≡ end = omega arith in
    sym (drop-take start (end - start) ivs) ∙ ap (λ n. drop start (take n ivs)) whole

-- ---- the span of a list

pub in_span : (ivs : List Bounds) (first last : Bounds) (c : ℕ) → IsCanonical ivs → slice_get ivs 0 ≡ Some first
    → slice_get ivs (length ivs - 1) ≡ Some last → is_member ivs c ≡ true → (first.first ≤ c) × (c ≤ last.last)
in_span [] first last c can at_first at_last h = absurd (none-some first at_first)
in_span (iv ∷ ivs) first last c can at_first at_last h =
    let p = canonical_parts 0 iv ivs can in
    let begin : iv.first ≡ first.first = ap (λ (b : Bounds). b.first) (same_Some iv first at_first) in
    let above = member_above iv.first (iv ∷ ivs) c
    (canonical_cons iv.first iv ivs (record { above = le_refl iv.first; interval = p.interval; rest = p.rest })) h in
    let l = last_at (iv ∷ ivs) last can at_last in (
      omega (arith, begin, above.0),
      elim (cases_lt last.last c) [
        | inl past ↦ absurd (true≢false (sym h ∙ is_member-nowhere (iv ∷ ivs) c last (λ k inside. gt-is_within (get_or (iv ∷ ivs) k last) c
            (elim (cases_lt k (length (iv ∷ ivs) - 1)) [
              | inl earlier ↦ (let beyond = l.beyond k last earlier in
                  let ordered = l.interval.ordered in omega arith)
              | inr not_earlier ↦ (let same : k ≡ length (iv ∷ ivs) - 1 = omega arith in
                  let at : (get_or (iv ∷ ivs) k last).last ≡ last.last = ap (λ n. (get_or (iv ∷ ivs) n last).last) same
                  ∙ ap (λ (b : Bounds). b.last) (l.here last) in omega arith)
            ]))))
        | inr within ↦ within
      ],
    )

pub span_ordered : (ivs : List Bounds) (first last : Bounds) → IsCanonical ivs → slice_get ivs 0 ≡ Some first
    → slice_get ivs (length ivs - 1) ≡ Some last → first.first ≤ last.last
span_ordered [] first last can at_first at_last = absurd (none-some first at_first)
span_ordered (iv ∷ ivs) first last can at_first at_last =
    let p = canonical_parts 0 iv ivs can in
    let begin : iv.first ≡ first.first = ap (λ (b : Bounds). b.first) (same_Some iv first at_first) in
    let member = is_member-cons iv ivs iv.first ∙ or_left _ _ (le-is_within iv iv.first (le_refl iv.first) p.interval.ordered) in
    let ends = in_span (iv ∷ ivs) first last iv.first can at_first at_last member in
    omega (arith, begin, ends.1)

pub within_span : (ivs : List Bounds) (first last span : Bounds) (c : ℕ) → IsCanonical ivs → slice_get ivs 0 ≡ Some first
    → slice_get ivs (length ivs - 1) ≡ Some last → span ≡ pair first.first last.last → is_member ivs c ≡ true → is_within span c ≡ true
within_span ivs first last span c can at_first at_last is h =
    let ends = in_span ivs first last c can at_first at_last h in
    ap (λ b. is_within b c) is ∙ le-is_within (pair first.first last.last) c ends.0 ends.1

-- ---- a list without the members of other intervals

cut_or : (t b d i : Bool) → (t ≡ true → i ≡ false) → (d ≡ true → i ≡ false) → (t || ((b && not i) || d)) ≡ ((t || (b || d)) && not i)
cut_or true b d i front after = sym (ap not (front refl))
cut_or false true d true front after = cut_none d after
  where
    cut_none : (d : Bool) → (d ≡ true → true ≡ false) → d ≡ false
    cut_none true h = absurd (true≢false (h refl))
    cut_none false h = refl
cut_or false true d false front after = refl
cut_or false false true i front after = sym (ap not (after refl))
cut_or false false false i front after = refl

-- the list has exactly the members of the first list that are not in the second
pub record IsCut (ivs dropped new : List Bounds) : Type 0 where
  pub canonical : IsCanonical new
  pub members : (c : ℕ) → is_member new c ≡ (is_member ivs c && not (is_member dropped c))

module _ (ivs dropped : List Bounds) (span : Bounds) (start end : ℕ) (can : IsCanonical ivs)
    (spans : (c : ℕ) → is_member dropped c ≡ true → is_within span c ≡ true) (range : IsTouchingRange ivs span start end) where
  front_apart : (c : ℕ) → is_member (take start ivs) c ≡ true → is_member dropped c ≡ false
  front_apart c h =
      false_from_ne_true _ (λ t. let w = is_within-true span c (spans c t) in
      true≢false (sym h ∙ is_member-nowhere (take start ivs) c span (λ k inside. (
      let len = length-take-le start ivs (omega (arith, range.in_order, range.in_bounds)) in
      let before = range.before k span (omega arith) (omega (arith, inside, len)) in
      let at : (get_or (take start ivs) k span).last ≡ (get_or ivs k span).last =
      ap (λ (b : Bounds). b.last) (get_or-take start ivs k span (omega (arith, inside, len))) in
      gt-is_within (get_or (take start ivs) k span) c (omega (arith, w.0, before, at))))))

  after_apart : (c : ℕ) → is_member (drop end ivs) c ≡ true → is_member dropped c ≡ false
  after_apart c h =
      false_from_ne_true _ (λ t. let w = is_within-true span c (spans c t) in
      true≢false (sym h ∙ is_member-nowhere (drop end ivs) c span (λ k inside. (
      let len = length-drop end ivs in
      let after = range.after (end + k) span (omega arith) (omega (arith, inside, len)) in
      let at : (get_or (drop end ivs) k span).first ≡ (get_or ivs (end + k) span).first =
      ap (λ (b : Bounds). b.first) (get_or-drop end ivs k span) in
      lt-is_within (get_or (drop end ivs) k span) c (omega (arith, w.1, after, at))))))

  pub cut : (gaps kept new : List Bounds) → IsComplement dropped gaps → IsCanonical kept
      → ((c : ℕ) → is_member kept c ≡ (is_member (between ivs start end) c && is_member gaps c))
      → new ≡ take start ivs ++ (kept ++ drop end ivs) → IsCut ivs dropped new
  cut gaps kept new away can_kept common made =
      let canonical : IsCanonical new = subst IsCanonical (sym made) (canonical_replaced ivs start end kept range.in_order can can_kept
      (λ c h. (and_parts (is_member (between ivs start end) c) _ (sym (common c) ∙ h)).0)) in
      record {
        canonical = canonical;
        members = λ c. elim (cases_lt code_point_max c) [
          | inl past ↦ no_member_past_end new c canonical past ∙ sym (and_left _ _ (no_member_past_end ivs c can past))
          | inr within ↦
              let t = is_member (take start ivs) c in
              let b = is_member (between ivs start end) c in
              let d = is_member (drop end ivs) c in
              let left : is_member new c ≡ (t || ((b && not (is_member dropped c)) || d)) =
              ap (λ l. is_member l c) made ∙ is_member-append (take start ivs) (kept ++ drop end ivs) c
              ∙ ap (λ x. t || x) (is_member-append kept (drop end ivs) c
              ∙ ap (λ x. x || d) (common c ∙ ap (λ x. b && x) (away c within))) in
              let whole : is_member ivs c ≡ (t || (b || d)) = ap (λ l. is_member l c) (sym (parts ivs start end range.in_order))
              ∙ is_member-append (take start ivs) (between ivs start end ++ drop end ivs) c
              ∙ ap (λ x. t || x) (is_member-append (between ivs start end) (drop end ivs) c) in
              left ∙ cut_or t b d (is_member dropped c) (front_apart c) (after_apart c)
              ∙ ap (λ x. x && not (is_member dropped c)) (sym whole)
        ];
      }

and_true : (b : Bool) → (b && true) ≡ b
and_true true = refl
and_true false = refl

-- if no interval touches the span, no member is dropped
pub cut_none : (ivs dropped : List Bounds) (span : Bounds) (start end c : ℕ) → IsCanonical ivs
    → ((c : ℕ) → is_member dropped c ≡ true → is_within span c ≡ true) → IsTouchingRange ivs span start end → start ≡ end
    → is_member ivs c ≡ (is_member ivs c && not (is_member dropped c))
cut_none ivs dropped span start end c can spans range same =
    elim (cases_Bool (is_member dropped c)) [
      | inl gone ↦
          let t_none = false_from_ne_true (is_member (take start ivs) c)
          (λ t. true≢false (sym gone ∙ front_apart ivs dropped span start end can spans range c t)) in
          let d_none = false_from_ne_true (is_member (drop end ivs) c)
          (λ t. true≢false (sym gone ∙ after_apart ivs dropped span start end can spans range c t)) in
          let whole = ap (λ l. is_member l c) (sym (take-append-drop start ivs)) ∙ is_member-append (take start ivs) (drop start ivs) c in
          let none = whole ∙ ap₂ (λ x y. x || y) t_none (ap (λ n. is_member (drop n ivs) c) same ∙ d_none) in
          none ∙ sym (and_left _ _ none)
      | inr kept ↦ sym (ap (λ b. is_member ivs c && not b) kept ∙ and_true (is_member ivs c))
    ]

-- if there are no members to drop, the list is unchanged
pub cut_empty : (ivs dropped : List Bounds) (c : ℕ) → dropped ≡ [] → is_member ivs c ≡ (is_member ivs c && not (is_member dropped c))
cut_empty ivs dropped c none =
    sym (ap (λ b. is_member ivs c && not b) (ap (λ l. is_member l c) none ∙ is_member-nil c) ∙ and_true (is_member ivs c))
