-- A range of a canonical list, replaced by one interval.
use Rattle.std.proofs.Common.{◌≡◌, ℕ, ◌+◌, ◌-◌, ◌<◌, ◌≤◌, Bool, true, false, ◌||◌, inl, inr, IsTrue, List, [], ◌∷◌, ◌++◌, length, take, drop, get_or, set, min, max, refl, ap, ap₂, ◌∙◌, sym, suc, zero, subst, le_refl, le_of_eq, le_trans, add-one, add-zero, ◌≢◌, insert, arith}
use Rattle.std.proofs.lemmas.Bool.{cases_lt, or_left, or_right, or_from}
use Rattle.std.proofs.lemmas.List.{take-append-drop, take-take, take_more, take_more_set, drop-set-lt, drop_all, append_assoc, get_or-drop, get_or-take, length-take-le, length-drop, get_or_default}
use Rattle.std.specs.List.{remove_range}
use Rattle.regress_base.specs.Intervals.{Bounds, IsInterval, is_within, is_member, is_canonical_from, IsCanonical, IsTouchingRange}
use Rattle.regress_base.proofs.WithinLemmas.{le-is_within, lt-is_within, gt-is_within}
use Rattle.regress_base.proofs.MemberLemmas.{is_member-nil, is_member-cons, is_member-append, is_member-at, is_member-nowhere}
use Rattle.regress_base.proofs.CanonicalLemmas.{canonical_parts, canonical_cons, canonical_append, canonical_front, canonical_back, canonical_at, canonical_apart, next_low, next_low-nil, next_low-push}

-- the intervals from `start` to `end`
abbrev pub between : List Bounds → ℕ → ℕ → List Bounds
between ivs start end = drop start (take end ivs)

-- the merged interval has the members of `iv` and of the intervals from `start` to `end`
pub record Merges (ivs : List Bounds) (iv : Bounds) (start end : ℕ) (merged : Bounds) : Type 0 where
  pub interval : IsInterval merged
  pub beyond : (k : ℕ) (d : Bounds) → k < start → (get_or ivs k d).last + 1 < merged.first
  pub before : (k : ℕ) (d : Bounds) → end ≤ k → k < length ivs → merged.last + 1 < (get_or ivs k d).first
  pub members : (c : ℕ) → is_within merged c ≡ (is_member (between ivs start end) c || is_within iv c)

next_low-take : (ivs : List Bounds) (k bound : ℕ) (d : Bounds) → k ≤ length ivs → ((j : ℕ) → j < k → (get_or ivs j d).last + 1 < bound)
    → next_low 0 (take k ivs) ≤ bound
next_low-take ivs zero bound d within above = le_trans (le_of_eq (next_low-nil 0)) (omega arith)
next_low-take ivs (suc j) bound d within above =
    let one_more : take (suc j) ivs ≡ take j ivs ++ get_or ivs j d ∷ [] = ap (λ n. take n ivs) (sym (add-one j))
    ∙ take_more ivs j d within in
    let at : next_low 0 (take (suc j) ivs) ≡ (get_or ivs j d).last + 2 = ap (next_low 0) one_more
    ∙ next_low-push 0 (take j ivs) (get_or ivs j d) in
    let last = above j (omega arith) in
    omega (arith, at, last)

canonical_raise : (low low' : ℕ) (ivs : List Bounds) (d : Bounds) → IsTrue (is_canonical_from low ivs)
    → (0 < length ivs → low' ≤ (get_or ivs 0 d).first) → IsTrue (is_canonical_from low' ivs)
canonical_raise low low' [] d can above = refl
canonical_raise low low' (iv ∷ ivs) d can above =
    let p = canonical_parts low iv ivs can in
    canonical_cons low' iv ivs (record { above = above (omega arith); interval = p.interval; rest = p.rest })

module _ (ivs : List Bounds) (iv : Bounds) (start end : ℕ) (merged : Bounds) where
  -- the list with the merged interval instead of the range is canonical
  pub canonical_joined : start ≤ end → end ≤ length ivs → IsCanonical ivs → Merges ivs iv start end merged
      → IsCanonical (take start ivs ++ merged ∷ drop end ivs)
  canonical_joined in_order in_bounds can m =
      let front = canonical_front 0 (take start ivs) (drop start ivs) (subst IsCanonical (sym (take-append-drop start ivs)) can) in
      let back = canonical_back 0 (take end ivs) (drop end ivs) (subst IsCanonical (sym (take-append-drop end ivs)) can) in
      let low = next_low-take ivs start merged.first merged (omega arith) (λ j h. m.beyond j merged h) in
      canonical_append 0 (take start ivs) (merged ∷ drop end ivs) front (canonical_cons _ merged (drop end ivs) (record {
        above = low;
        interval = m.interval;
        rest = canonical_raise _ (merged.last + 2) (drop end ivs) merged back (λ some.
            let at : get_or (drop end ivs) 0 merged ≡ get_or ivs end merged = get_or-drop end ivs 0 merged
            ∙ ap (λ n. get_or ivs n merged) (add-zero end) in
            let gap = m.before end merged (le_refl end) (omega (arith, length-drop end ivs)) in
            let P : Bounds → Type 0 = λ b. merged.last + 2 ≤ b.first in
            subst P (sym at) (omega arith));
      }))

  swap_or : (t m d w : Bool) → (t || ((m || w) || d)) ≡ (((t || m) || d) || w)
  swap_or true m d w = refl
  swap_or false true d w = refl
  swap_or false false true true = refl
  swap_or false false true false = refl
  swap_or false false false true = refl
  swap_or false false false false = refl

  pub members_joined : (c : ℕ) → start ≤ end → Merges ivs iv start end merged
      → is_member (take start ivs ++ merged ∷ drop end ivs) c ≡ (is_member ivs c || is_within iv c)
  members_joined c in_order m =
      let front : take start ivs ++ between ivs start end
      ≡ take end ivs = ap (λ l. l ++ between ivs start end) (sym (take-take start end ivs in_order))
      ∙ take-append-drop start (take end ivs) in
      let whole : is_member ivs c ≡ ((is_member (take start ivs) c || is_member (between ivs start end) c) || is_member (drop end ivs) c) =
      ap (λ l. is_member l c) (sym (take-append-drop end ivs)) ∙ is_member-append (take end ivs) (drop end ivs) c
      ∙ ap (λ b. b || is_member (drop end ivs) c)
      (ap (λ l. is_member l c) (sym front) ∙ is_member-append (take start ivs) (between ivs start end) c) in
      is_member-append (take start ivs) (merged ∷ drop end ivs) c
      ∙ ap (λ b. is_member (take start ivs) c || b)
      (is_member-cons merged (drop end ivs) c ∙ ap (λ b. b || is_member (drop end ivs) c) (m.members c))
      ∙ swap_or (is_member (take start ivs) c) (is_member (between ivs start end) c) (is_member (drop end ivs) c) (is_within iv c)
      ∙ ap (λ b. b || is_within iv c) (sym whole)

-- the list after one element is overwritten and the rest of the range is drained
pub drained : (ivs : List Bounds) (start end : ℕ) (merged : Bounds) → start < end → end ≤ length ivs
    → remove_range (set ivs start merged) (start + 1) end ≡ take start ivs ++ merged ∷ drop end ivs
drained ivs start end merged some in_bounds =
    ap₂ (λ a b. a ++ b) (take_more_set ivs start merged (omega arith)) (drop-set-lt end ivs start merged some)
    ∙ append_assoc (take start ivs) (merged ∷ []) (drop end ivs)

-- an interval that touches no other is its own merged interval
pub merges_none : (ivs : List Bounds) (iv : Bounds) (k : ℕ) → IsInterval iv → IsTouchingRange ivs iv k k → Merges ivs iv k k iv
merges_none ivs iv k interval range =
    let none : between ivs k k ≡ [] = drop_all k (take k ivs) (le_of_eq (length-take-le k ivs range.in_bounds)) in
    record {
      interval = interval;
      beyond = λ j d h. range.before j d (omega arith) h;
      before = λ j d h inside. range.after j d h inside;
      members = λ c. sym (ap (λ b. b || is_within iv c) (ap (λ l. is_member l c) none ∙ is_member-nil c));
    }

module _ (ivs : List Bounds) (start end : ℕ) (d : Bounds) (in_bounds : end ≤ length ivs) where
  get_or-between : (k : ℕ) → start + k < end → get_or (between ivs start end) k d ≡ get_or ivs (start + k) d
  get_or-between k h = get_or-drop start (take end ivs) k d ∙ get_or-take end ivs (start + k) d h

  length-between : length (between ivs start end) ≡ end - start
  length-between = length-drop start (take end ivs) ∙ ap (λ n. n - start) (length-take-le end ivs in_bounds)

  between-at : (k c : ℕ) → start ≤ k → k < end → is_within (get_or ivs k d) c ≡ true → is_member (between ivs start end) c ≡ true
  between-at k c from to within =
      let position : start + (k - start) ≡ k = omega arith in
      is_member-at (between ivs start end) (k - start) c d (omega (arith, length-between))
      (ap (λ b. is_within b c) (get_or-between (k - start) (omega arith) ∙ ap (λ n. get_or ivs n d) position) ∙ within)

  between-nowhere : (c : ℕ) → ((k : ℕ) → start ≤ k → k < end → is_within (get_or ivs k d) c ≡ false)
      → is_member (between ivs start end) c ≡ false
  between-nowhere c none =
      is_member-nowhere (between ivs start end) c d
      (λ k h. ap (λ b. is_within b c) (get_or-between k (omega (arith, length-between)))
      ∙ none (start + k) (omega arith) (omega (arith, length-between)))

-- the merged interval extends from the lower first to the higher last of `iv` and the touching range
pub merges_some : (ivs : List Bounds) (iv : Bounds) (start end : ℕ) (d : Bounds) → IsCanonical ivs → IsInterval iv
    → IsTouchingRange ivs iv start end → start < end
    → (merged : Bounds) → merged.first ≡ min (get_or ivs start d).first iv.first → merged.last ≡ max (get_or ivs (end - 1) d).last iv.last
    → Merges ivs iv start end merged
merges_some ivs iv start end d can interval range some merged first last =
    let low = get_or ivs start d in
    let high = get_or ivs (end - 1) d in
    let low_at = canonical_at 0 ivs start d can (omega (arith, range.in_bounds)) in
    let high_at = canonical_at 0 ivs (end - 1) d can (omega (arith, range.in_bounds)) in
    let low_touches = range.touching start d (le_refl start) some in
    let high_touches = range.touching (end - 1) d (omega arith) (omega arith) in
    let ordered = interval.ordered in
    let low_ordered = low_at.interval.ordered in
    let high_ordered = high_at.interval.ordered in
    record {
      interval = record { ordered = omega arith; in_range = omega (arith, interval.in_range, high_at.interval.in_range) };
      beyond = λ k e h. (let gap = canonical_apart 0 ivs k start e can h (omega (arith, range.in_bounds)) in
          let same : get_or ivs start e ≡ low = get_or_default ivs start e d (omega (arith, range.in_bounds)) in
          let same_first : (get_or ivs start e).first ≡ low.first = ap (λ b. b.first) same in
          let before = range.before k e (omega arith) h in omega arith);
      before = λ k e h inside. (let gap = canonical_apart 0 ivs (end - 1) k e can (omega arith) inside in
          let same : get_or ivs (end - 1) e ≡ high = get_or_default ivs (end - 1) e d (omega (arith, range.in_bounds)) in
          let same_last : (get_or ivs (end - 1) e).last ≡ high.last = ap (λ b. b.last) same in
          let after = range.after k e h inside in omega arith);
      members = λ c. elim (cases_lt c iv.first) [
        | inl below ↦ elim (cases_lt c low.first) [
          | inl outside ↦ lt-is_within merged c (omega arith) ∙ sym (or_from _ _
              (between-nowhere ivs start end d range.in_bounds c
              (λ k from to. lt-is_within (get_or ivs k d) c (first_above k c from to outside)))
              (lt-is_within iv c below))
          | inr inside ↦ le-is_within merged c (omega arith) (omega arith) ∙ sym (or_left _ _
              (between-at ivs start end d range.in_bounds start c (le_refl start) some
              (le-is_within low c inside (omega (arith, low_touches.not_before)))))
        ]
        | inr from ↦ elim (cases_lt iv.last c) [
          | inl above ↦ elim (cases_lt high.last c) [
            | inl outside ↦ gt-is_within merged c (omega arith) ∙ sym (or_from _ _
                (between-nowhere ivs start end d range.in_bounds c
                (λ k from to. gt-is_within (get_or ivs k d) c (last_below k c from to outside)))
                (gt-is_within iv c above))
            | inr inside ↦ le-is_within merged c (omega arith) (omega arith) ∙ sym (or_left _ _
                (between-at ivs start end d range.in_bounds (end - 1) c (omega arith) (omega arith)
                (le-is_within high c (omega (arith, high_touches.not_after)) inside)))
          ]
          | inr to ↦ le-is_within merged c (omega arith) (omega arith) ∙ sym (or_right _ _ (le-is_within iv c from to))
        ]
      ];
    }
  where
    first_above : (k c : ℕ) → start ≤ k → k < end → c < (get_or ivs start d).first → c < (get_or ivs k d).first
    first_above k c from to outside =
        elim (cases_lt start k) [
          | inl later ↦ (let gap = canonical_apart 0 ivs start k d can later (omega (arith, range.in_bounds)) in
              let ordered = (canonical_at 0 ivs start d can (omega (arith, range.in_bounds))).interval.ordered in omega arith)
          | inr not_later ↦ (let same : start ≡ k = omega arith in
              subst (λ (n : ℕ). c < (get_or ivs n d).first) same outside)
        ]

    last_below : (k c : ℕ) → start ≤ k → k < end → (get_or ivs (end - 1) d).last < c → (get_or ivs k d).last < c
    last_below k c from to outside =
        elim (cases_lt k (end - 1)) [
          | inl earlier ↦ (let gap = canonical_apart 0 ivs k (end - 1) d can earlier (omega (arith, range.in_bounds)) in
              let ordered = (canonical_at 0 ivs (end - 1) d can (omega (arith, range.in_bounds))).interval.ordered in omega arith)
          | inr not_earlier ↦ (let same : end - 1 ≡ k = omega arith in
              subst (λ (n : ℕ). (get_or ivs n d).last < c) same outside)
        ]

-- the list has the members of the old one and those of the interval
pub record IsAdded (ivs : List Bounds) (iv : Bounds) (new : List Bounds) : Type 0 where
  pub canonical : IsCanonical new
  pub members : (c : ℕ) → is_member new c ≡ (is_member ivs c || is_within iv c)

pub added : (ivs : List Bounds) (iv : Bounds) (start end : ℕ) (merged : Bounds) (new : List Bounds) → IsCanonical ivs
    → IsTouchingRange ivs iv start end → Merges ivs iv start end merged → new ≡ take start ivs ++ merged ∷ drop end ivs → IsAdded ivs iv new
added ivs iv start end merged new can range merges made = record {
  canonical = subst IsCanonical (sym made) (canonical_joined ivs iv start end merged range.in_order range.in_bounds can merges);
  members = λ c. ap (λ l. is_member l c) made ∙ members_joined ivs iv start end merged c range.in_order merges;
}

-- an interval that touches none is inserted
pub added_new : (ivs : List Bounds) (iv : Bounds) (start end : ℕ) (new : List Bounds) → IsCanonical ivs → IsInterval iv
    → IsTouchingRange ivs iv start end → start ≡ end → new ≡ insert ivs start iv → IsAdded ivs iv new
added_new ivs iv start end new can interval range same made =
    let none = subst (λ (n : ℕ). IsTouchingRange ivs iv start n) (sym same) range in
    added ivs iv start start iv new can none (merges_none ivs iv start interval none) made

-- an interval that touches some is merged with them at the index of the first one
pub added_joined : (ivs : List Bounds) (iv : Bounds) (start end : ℕ) (low high merged : Bounds) (new : List Bounds) → IsCanonical ivs
    → IsInterval iv → IsTouchingRange ivs iv start end → start ≢ end
    → low ≡ get_or ivs start low → high ≡ get_or ivs (end - 1) high
    → merged.first ≡ min low.first iv.first → merged.last ≡ max high.last iv.last
    → new ≡ remove_range (set ivs start merged) (start + 1) end → IsAdded ivs iv new
added_joined ivs iv start end low high merged new can interval range differ low_at high_at first last made =
    let some : start < end = omega (arith, range.in_order, differ) in
    let high_here : high ≡ get_or ivs (end - 1) low = high_at ∙ get_or_default ivs (end - 1) high low (omega (arith, range.in_bounds)) in
    let merges = merges_some ivs iv start end low can interval range some merged (first ∙ ap (λ b. min b.first iv.first) low_at)
    (last ∙ ap (λ b. max b.last iv.last) high_here) in
    added ivs iv start end merged new can range merges (made ∙ drained ivs start end merged some range.in_bounds)
