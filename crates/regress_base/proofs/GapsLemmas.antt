-- The gaps of a canonical list are its complement.
use Rattle.std.proofs.Common.{◌≡◌, ℕ, ◌+◌, ◌-◌, ◌<◌, ◌≤◌, Bool, true, false, not, ◌||◌, cond, nat_lt, nat_le, inl, inr, IsTrue, List, [], ◌∷◌, ◌++◌, length, drop, get_or, slice_get, Some, None, refl, sym, ap, ◌∙◌, subst, le_refl, le-ltb, lt-ltb, arith}
use Rattle.std.proofs.lemmas.List.{drop_more, drop_all, append_assoc, append-nil}
use Rattle.std.proofs.lemmas.Option.{none-some, same_Some, get_or_from_slice_get}
use Rattle.std.proofs.lemmas.Bool.{cases_lt, cond-true, cond-false, or_left, or_from, le-leb, lt-leb}
use mir.Val.{bool_byte}
use Rattle.regress_base.specs.Intervals.{Bounds, is_member, is_canonical_from, IsCanonical, IsComplement, code_point_max}
use Rattle.regress_base.proofs.WithinLemmas.{pair, le-is_within, lt-is_within, gt-is_within}
use Rattle.regress_base.proofs.MemberLemmas.{is_member-nil, is_member-cons, is_member-one}
use Rattle.regress_base.proofs.CanonicalLemmas.{canonical_parts, canonical_cons, canonical_lower, no_member_below}
use Rattle.regress_base.proofs.UniqueLemmas.{canonical_unique}

-- the gaps from a number on: before, between and after the intervals
unfoldable pub gaps_from : ℕ → List Bounds → List Bounds
gaps_from start [] = cond (nat_le start code_point_max) (record { first = start; last = code_point_max } ∷ []) []
gaps_from start (iv ∷ ivs) =
    cond (nat_lt start iv.first) (record { first = start; last = iv.first - 1 } ∷ gaps_from (iv.last + 1) ivs) (gaps_from (iv.last + 1) ivs)

pub gaps_from-gap : (start : ℕ) (iv : Bounds) (ivs : List Bounds) → start < iv.first
    → gaps_from start (iv ∷ ivs) ≡ record { first = start; last = iv.first - 1 } ∷ gaps_from (iv.last + 1) ivs
unfolding gaps_from
gaps_from-gap start iv ivs h = cond-true _ _ _ (lt-ltb start iv.first h)

pub gaps_from-none : (start : ℕ) (iv : Bounds) (ivs : List Bounds) → iv.first ≤ start
    → gaps_from start (iv ∷ ivs) ≡ gaps_from (iv.last + 1) ivs
unfolding gaps_from
gaps_from-none start iv ivs h = cond-false _ _ _ (le-ltb start iv.first h)

pub gaps_from-end : (start : ℕ) → start ≤ code_point_max → gaps_from start [] ≡ record { first = start; last = code_point_max } ∷ []
unfolding gaps_from
gaps_from-end start h = cond-true _ _ _ (le-leb start code_point_max h)

pub gaps_from-full : (start : ℕ) → code_point_max < start → gaps_from start [] ≡ []
unfolding gaps_from
gaps_from-full start h = cond-false _ _ _ (lt-leb start code_point_max h)

pub canonical_gaps : (start low : ℕ) (ivs : List Bounds) → start ≤ low → IsTrue (is_canonical_from low ivs)
    → IsTrue (is_canonical_from start (gaps_from start ivs))
canonical_gaps start low [] h can =
    elim (cases_lt code_point_max start) [
      | inl full ↦ subst (λ (l : List Bounds). IsTrue (is_canonical_from start l)) (sym (gaps_from-full start full)) refl
      | inr some ↦ subst (λ (l : List Bounds). IsTrue (is_canonical_from start l)) (sym (gaps_from-end start some))
          (canonical_cons start (pair start code_point_max) [] (record {
            above = le_refl start;
            interval = record { ordered = some; in_range = le_refl code_point_max };
            rest = refl;
          }))
    ]
canonical_gaps start low (iv ∷ ivs) h can =
    let p = canonical_parts low iv ivs can in
    let ordered = p.interval.ordered in
    let above = p.above in
    let rest = canonical_gaps (iv.last + 1) (iv.last + 2) ivs (omega arith) p.rest in
    elim (cases_lt start iv.first) [
      | inl gap ↦ subst (λ (l : List Bounds). IsTrue (is_canonical_from start l)) (sym (gaps_from-gap start iv ivs gap))
          (canonical_cons start (pair start (iv.first - 1)) (gaps_from (iv.last + 1) ivs) (record {
            above = le_refl start;
            interval = record { ordered = omega arith; in_range = omega (arith, p.interval.in_range) };
            rest = canonical_lower (iv.last + 1) (iv.first - 1 + 2) (gaps_from (iv.last + 1) ivs) (omega arith) rest;
          }))
      | inr none ↦ subst (λ (l : List Bounds). IsTrue (is_canonical_from start l)) (sym (gaps_from-none start iv ivs none))
          (canonical_lower (iv.last + 1) start (gaps_from (iv.last + 1) ivs) (omega arith) rest)
    ]

-- the gap before an interval does not matter from the start of the interval on
skip_gap : (start c : ℕ) (iv : Bounds) (ivs : List Bounds) → iv.first ≤ c
    → is_member (gaps_from start (iv ∷ ivs)) c ≡ is_member (gaps_from (iv.last + 1) ivs) c
skip_gap start c iv ivs from =
    elim (cases_lt start iv.first) [
      | inl gap ↦ ap (λ l. is_member l c) (gaps_from-gap start iv ivs gap)
          ∙ is_member-cons (pair start (iv.first - 1)) (gaps_from (iv.last + 1) ivs) c
          ∙ ap (λ b. b || is_member (gaps_from (iv.last + 1) ivs) c) (gt-is_within (pair start (iv.first - 1)) c (omega arith))
      | inr none ↦ ap (λ l. is_member l c) (gaps_from-none start iv ivs none)
    ]

pub complement_gaps : (start low c : ℕ) (ivs : List Bounds) → start ≤ low → IsTrue (is_canonical_from low ivs) → start ≤ c
    → c ≤ code_point_max → is_member (gaps_from start ivs) c ≡ not (is_member ivs c)
complement_gaps start low c [] h can from to =
    ap (λ l. is_member l c) (gaps_from-end start (omega arith)) ∙ is_member-one (pair start code_point_max) c
    ∙ le-is_within (pair start code_point_max) c from to
    ∙ sym (ap not (is_member-nil c))
complement_gaps start low c (iv ∷ ivs) h can from to =
    let p = canonical_parts low iv ivs can in
    let ordered = p.interval.ordered in
    let above = p.above in
    elim (cases_lt c iv.first) [
      | inl before ↦
          ap (λ l. is_member l c) (gaps_from-gap start iv ivs (omega arith))
          ∙ is_member-cons (pair start (iv.first - 1)) (gaps_from (iv.last + 1) ivs) c
          ∙ or_left _ _ (le-is_within (pair start (iv.first - 1)) c from (omega arith))
          ∙ sym (ap not (is_member-cons iv ivs c
          ∙ or_from _ _ (lt-is_within iv c before) (no_member_below (iv.last + 2) ivs c p.rest (omega arith))))
      | inr reached ↦ elim (cases_lt iv.last c) [
        | inl after ↦ skip_gap start c iv ivs reached
            ∙ complement_gaps (iv.last + 1) (iv.last + 2) c ivs (omega arith) p.rest (omega arith) to
            ∙ sym (ap not (is_member-cons iv ivs c ∙ ap (λ b. b || is_member ivs c) (gt-is_within iv c after)))
        | inr inside ↦ skip_gap start c iv ivs reached
            ∙ no_member_below (iv.last + 1) (gaps_from (iv.last + 1) ivs) c
            (canonical_gaps (iv.last + 1) (iv.last + 2) ivs (omega arith) p.rest) (omega arith)
            ∙ sym (ap not (is_member-cons iv ivs c ∙ or_left _ _ (le-is_within iv c reached inside)))
      ]
    ]

not-not : (b : Bool) → not (not b) ≡ b
not-not true = refl
not-not false = refl

-- the complement of a complement is the list itself
pub complement_twice : (ivs others back : List Bounds) → IsCanonical ivs → IsCanonical back → IsComplement ivs others
    → IsComplement others back → back ≡ ivs
complement_twice ivs others back can can_back away home =
    canonical_unique back ivs can_back can (λ c within. home c within ∙ ap not (away c within) ∙ not-not (is_member ivs c))

-- one more interval, with or without a gap before it
module _ (start i last : ℕ) (iv : Bounds) (ivs : List Bounds) (inside : i < length ivs) (read : iv ≡ get_or ivs i iv)
    (ends : last ≡ iv.last) where
  split : drop i ivs ≡ iv ∷ drop (i + 1) ivs
  split = drop_more ivs i iv inside ∙ ap (λ b. b ∷ drop (i + 1) ivs) (sym read)

  one_gap : start < iv.first
      → gaps_from start (drop i ivs) ≡ record { first = start; last = iv.first - 1 } ∷ gaps_from (last + 1) (drop (i + 1) ivs)
  one_gap gap =
      ap (gaps_from start) split ∙ gaps_from-gap start iv (drop (i + 1) ivs) gap
      ∙ ap (λ n. pair start (iv.first - 1) ∷ gaps_from (n + 1) (drop (i + 1) ivs)) (sym ends)

  no_gap : iv.first ≤ start → gaps_from start (drop i ivs) ≡ gaps_from (last + 1) (drop (i + 1) ivs)
  no_gap none =
      ap (gaps_from start) split ∙ gaps_from-none start iv (drop (i + 1) ivs) none
      ∙ ap (λ n. gaps_from (n + 1) (drop (i + 1) ivs)) (sym ends)

  module _ (out new whole : List Bounds) (so_far : out ++ gaps_from start (drop i ivs) ≡ whole) where
    pub gaps_step_gap : start < iv.first → new ≡ out ++ record { first = start; last = iv.first - 1 } ∷ []
        → new ++ gaps_from (last + 1) (drop (i + 1) ivs) ≡ whole
    gaps_step_gap gap pushed =
        ap (λ l. l ++ gaps_from (last + 1) (drop (i + 1) ivs)) pushed
        ∙ append_assoc out (pair start (iv.first - 1) ∷ []) (gaps_from (last + 1) (drop (i + 1) ivs))
        ∙ ap (λ l. out ++ l) (sym (one_gap gap)) ∙ so_far

    pub gaps_step_none : iv.first ≤ start → new ≡ out → new ++ gaps_from (last + 1) (drop (i + 1) ivs) ≡ whole
    gaps_step_none none kept =
        ap (λ l. l ++ gaps_from (last + 1) (drop (i + 1) ivs)) kept ∙ ap (λ l. out ++ l) (sym (no_gap none)) ∙ so_far

-- the whole complement while its list is built
pub complement_from : (ivs gaps : List Bounds) → IsCanonical ivs → gaps ≡ gaps_from 0 ivs → IsCanonical gaps × IsComplement ivs gaps
complement_from ivs gaps can made = (
  subst IsCanonical (sym made) (canonical_gaps 0 0 ivs (le_refl 0) can),
  λ c within. ap (λ l. is_member l c) made
      ∙ complement_gaps 0 0 c ivs (le_refl 0) can (omega arith) within,
)

-- the list and the count after all intervals
pub gaps_done : (out : List Bounds) (start i : ℕ) (ivs whole : List Bounds) → length ivs ≤ i → out ++ gaps_from start (drop i ivs) ≡ whole
    → out ++ gaps_from start [] ≡ whole
gaps_done out start i ivs whole ended so_far = ap (λ l. out ++ gaps_from start l) (sym (drop_all i ivs ended)) ∙ so_far

-- ---- the number of gaps

count-cons : (start : ℕ) (iv : Bounds) (ivs : List Bounds)
    → length (gaps_from start (iv ∷ ivs)) ≡ bool_byte (nat_lt start iv.first) + length (gaps_from (iv.last + 1) ivs)
count-cons start iv ivs =
    elim (cases_lt start iv.first) [
      | inl gap ↦
          let one : bool_byte (nat_lt start iv.first) ≡ 1 = ap bool_byte (lt-ltb start iv.first gap) in
          let made = ap length (gaps_from-gap start iv ivs gap) in
          omega arith
      | inr none ↦
          let zero : bool_byte (nat_lt start iv.first) ≡ 0 = ap bool_byte (le-ltb start iv.first none) in
          let made = ap length (gaps_from-none start iv ivs none) in
          omega arith
    ]

count-end : (last : ℕ) → length (gaps_from (last + 1) []) ≡ bool_byte (nat_lt last code_point_max)
count-end last =
    elim (cases_lt last code_point_max) [
      | inl some ↦ ap length (gaps_from-end (last + 1) (omega arith)) ∙ sym (ap bool_byte (lt-ltb last code_point_max some))
      | inr full ↦ ap length (gaps_from-full (last + 1) (omega arith)) ∙ sym (ap bool_byte (le-ltb last code_point_max full))
    ]

-- one gap between every two neighbors, one before the first if it begins above `start`, and one after the last
count-all : (start low : ℕ) (iv d : Bounds) (ivs : List Bounds) → IsTrue (is_canonical_from low (iv ∷ ivs))
    → length (gaps_from start (iv ∷ ivs))
    ≡ bool_byte (nat_lt start iv.first) + length ivs + bool_byte (nat_lt (get_or (iv ∷ ivs) (length ivs) d).last code_point_max)
count-all start low iv d [] can =
    let first = count-cons start iv [] in
    let end = count-end iv.last in
    omega arith
count-all start low iv d (x ∷ xs) can =
    let rest = (canonical_parts low iv (x ∷ xs) can).rest in
    let above = (canonical_parts (iv.last + 2) x xs rest).above in
    let first = count-cons start iv (x ∷ xs) in
    let between : bool_byte (nat_lt (iv.last + 1) x.first) ≡ 1 = ap bool_byte (lt-ltb (iv.last + 1) x.first (omega arith)) in
    let others = count-all (iv.last + 1) (iv.last + 2) x d xs rest in
    omega arith

-- the number of gaps of a set, from its first and its last interval
pub counted : (items ivs : List Bounds) (first last : Bounds) (n : ℕ) → IsCanonical items → items ≡ ivs → slice_get items 0 ≡ Some first
    → slice_get items (length items - 1) ≡ Some last
    → n ≡ length items - 1 + bool_byte (nat_lt 0 first.first) + bool_byte (nat_lt last.last code_point_max)
    → (gaps : List Bounds) × IsCanonical gaps × IsComplement ivs gaps × (n ≡ length gaps)
counted [] ivs first last n can same at_first at_last is = absurd (none-some first at_first)
counted (iv ∷ items) ivs first last n can same at_first at_last is =
    let complement = complement_from (iv ∷ items) (gaps_from 0 (iv ∷ items)) can refl in
    let after : length (iv ∷ items) - 1 ≡ length items = omega arith in
    let begin = ap (λ (b : Bounds). bool_byte (nat_lt 0 b.first)) (same_Some iv first at_first) in
    let end =
    ap (λ (b : Bounds). bool_byte (nat_lt b.last code_point_max))
    (get_or_from_slice_get (iv ∷ items) (length items) last iv (ap (slice_get (iv ∷ items)) (sym after) ∙ at_last)) in
    let all = count-all 0 0 iv iv items can in (
      gaps_from 0 (iv ∷ items),
      complement.0,
      subst (λ (l : List Bounds). IsComplement l (gaps_from 0 (iv ∷ items))) same complement.1,
      omega arith,
    )

pub counted-none : (items ivs : List Bounds) → items ≡ ivs → slice_get items 0 ≡ None
    → (gaps : List Bounds) × IsCanonical gaps × IsComplement ivs gaps × (1 ≡ length gaps)
counted-none [] ivs same none =
    let complement = complement_from [] (gaps_from 0 []) refl refl in (
      gaps_from 0 [],
      complement.0,
      subst (λ (l : List Bounds). IsComplement l (gaps_from 0 [])) same complement.1,
      sym (ap length (gaps_from-end 0 (omega arith))),
    )
counted-none (iv ∷ items) ivs same none = absurd (none-some iv (sym none))

-- the list with or without a last gap
pub gaps_end : (out new : List Bounds) (start i : ℕ) (ivs : List Bounds) → length ivs ≤ i
    → out ++ gaps_from start (drop i ivs) ≡ gaps_from 0 ivs → start ≤ code_point_max
    → new ≡ out ++ record { first = start; last = code_point_max } ∷ [] → new ≡ gaps_from 0 ivs
gaps_end out new start i ivs ended so_far some pushed =
    pushed ∙ ap (λ l. out ++ l) (sym (gaps_from-end start some)) ∙ gaps_done out start i ivs (gaps_from 0 ivs) ended so_far

pub gaps_full : (out new : List Bounds) (start i : ℕ) (ivs : List Bounds) → length ivs ≤ i
    → out ++ gaps_from start (drop i ivs) ≡ gaps_from 0 ivs → code_point_max < start → new ≡ out → new ≡ gaps_from 0 ivs
gaps_full out new start i ivs ended so_far full kept =
    kept ∙ sym (append-nil out) ∙ ap (λ l. out ++ l) (sym (gaps_from-full start full))
    ∙ gaps_done out start i ivs (gaps_from 0 ivs) ended so_far
