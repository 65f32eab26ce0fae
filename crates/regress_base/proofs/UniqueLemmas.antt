-- Canonical lists with the same members are equal.
use Rattle.std.proofs.Common.{◌≡◌, ℕ, ◌+◌, ◌≤◌, Bool, true, false, ◌||◌, inl, inr, IsTrue, List, [], ◌∷◌, refl, sym, ap, ap₂, ◌∙◌, subst, le_refl, le_antisymm, ◌==◌, eqb-true, eq-eqb, Decides, arith}
use Rattle.std.specs.Cmp.Lexicographic.{pointwise}
use Rattle.std.proofs.lemmas.Slice.Eq.{slice_eq-Decides}
use Rattle.std.proofs.lemmas.Bool.{cases_lt, or_left, or_from, and_parts, and_from, false≢true}
use Rattle.regress_base.specs.Intervals.{Bounds, bounds_eq, is_member, is_canonical_from, IsCanonical, code_point_max}
use Rattle.regress_base.proofs.WithinLemmas.{pair, le-is_within, gt-is_within}
use Rattle.regress_base.proofs.MemberLemmas.{is_member-nil, is_member-cons, is_member-one}
use Rattle.regress_base.proofs.CanonicalLemmas.{canonical_parts, from_first, member_above, no_member_below, no_member_past_end}

first_is_member : (low : ℕ) (iv : Bounds) (ivs : List Bounds) → IsTrue (is_canonical_from low (iv ∷ ivs))
    → is_member (iv ∷ ivs) iv.first ≡ true
first_is_member low iv ivs can =
    is_member-cons iv ivs iv.first
    ∙ or_left _ _ (le-is_within iv iv.first (le_refl iv.first) (canonical_parts low iv ivs can).interval.ordered)

past_last_is_none : (low : ℕ) (iv : Bounds) (ivs : List Bounds) → IsTrue (is_canonical_from low (iv ∷ ivs))
    → is_member (iv ∷ ivs) (iv.last + 1) ≡ false
past_last_is_none low iv ivs can =
    is_member-cons iv ivs (iv.last + 1)
    ∙ or_from _ _ (gt-is_within iv (iv.last + 1) (omega arith))
    (no_member_below (iv.last + 2) ivs (iv.last + 1) (canonical_parts low iv ivs can).rest (omega arith))

-- the first interval of one list ends no earlier than that of the other
reaches : (low : ℕ) (x y : Bounds) (xs ys : List Bounds) → IsTrue (is_canonical_from low (x ∷ xs))
    → IsTrue (is_canonical_from low (y ∷ ys)) → ((c : ℕ) → is_member (x ∷ xs) c ≡ is_member (y ∷ ys) c) → x.first ≡ y.first
    → y.last ≤ x.last
reaches low x y xs ys cx cy same first =
    elim (cases_lt x.last y.last) [
      | inl shorter ↦ (let ordered = (canonical_parts low x xs cx).interval.ordered in
          let in_y : is_member (y ∷ ys) (x.last + 1) ≡ true = is_member-cons y ys (x.last + 1)
          ∙ or_left _ _ (le-is_within y (x.last + 1) (omega arith) (omega arith)) in
          absurd (false≢true (sym (past_last_is_none low x xs cx) ∙ same (x.last + 1) ∙ in_y)))
      | inr as_long ↦ as_long
    ]

begins : (low : ℕ) (x y : Bounds) (xs ys : List Bounds) → IsTrue (is_canonical_from low (x ∷ xs))
    → IsTrue (is_canonical_from low (y ∷ ys)) → ((c : ℕ) → is_member (x ∷ xs) c ≡ is_member (y ∷ ys) c) → y.first ≤ x.first
begins low x y xs ys cx cy same =
    (member_above y.first (y ∷ ys) x.first (from_first low y ys cy) (sym (same x.first) ∙ first_is_member low x xs cx)).0

-- lists after equal first intervals have the same members
after_same : (iv : Bounds) (xs ys : List Bounds) → IsTrue (is_canonical_from (iv.last + 2) xs)
    → IsTrue (is_canonical_from (iv.last + 2) ys) → ((c : ℕ) → is_member (iv ∷ xs) c ≡ is_member (iv ∷ ys) c) → (c : ℕ)
    → is_member xs c ≡ is_member ys c
after_same iv xs ys cx cy same c =
    elim (cases_lt c (iv.last + 2)) [
      | inl below ↦ no_member_below (iv.last + 2) xs c cx below ∙ sym (no_member_below (iv.last + 2) ys c cy below)
      | inr above ↦ (let out = gt-is_within iv c (omega arith) in
          ap (λ b. b || is_member xs c) (sym out) ∙ sym (is_member-cons iv xs c) ∙ same c ∙ is_member-cons iv ys c
          ∙ ap (λ b. b || is_member ys c) out)
    ]

pub canonical_unique_from : (low : ℕ) (xs ys : List Bounds) → IsTrue (is_canonical_from low xs) → IsTrue (is_canonical_from low ys)
    → ((c : ℕ) → is_member xs c ≡ is_member ys c) → xs ≡ ys
canonical_unique_from low [] [] cx cy same = refl
canonical_unique_from low [] (y ∷ ys) cx cy same =
    absurd (false≢true (sym (is_member-nil y.first) ∙ same y.first ∙ first_is_member low y ys cy))
canonical_unique_from low (x ∷ xs) [] cx cy same =
    absurd (false≢true (sym (is_member-nil x.first) ∙ sym (same x.first) ∙ first_is_member low x xs cx))
canonical_unique_from low (x ∷ xs) (y ∷ ys) cx cy same =
    let first : x.first ≡ y.first = le_antisymm (begins low y x ys xs cy cx (λ c. sym (same c))) (begins low x y xs ys cx cy same) in
    let last : x.last ≡ y.last = le_antisymm (reaches low y x ys xs cy cx (λ c. sym (same c)) (sym first))
    (reaches low x y xs ys cx cy same first) in
    let equal : x ≡ y = ap₂ (λ f l. pair f l) first last in
    let rest_y : IsTrue (is_canonical_from (x.last + 2) ys) = subst (λ (n : ℕ). IsTrue (is_canonical_from (n + 2) ys)) (sym last)
    (canonical_parts low y ys cy).rest in
    let same_heads : (c : ℕ) → is_member (x ∷ xs) c ≡ is_member (x ∷ ys) c = λ c. same c ∙ ap (λ b. is_member (b ∷ ys) c) (sym equal) in
    let rest_x = (canonical_parts low x xs cx).rest in
    ap₂ (λ h t. h ∷ t) equal (canonical_unique_from (x.last + 2) xs ys rest_x rest_y (after_same x xs ys rest_x rest_y same_heads))

-- agreement on the code points suffices
pub canonical_unique : (xs ys : List Bounds) → IsCanonical xs → IsCanonical ys
    → ((c : ℕ) → c ≤ code_point_max → is_member xs c ≡ is_member ys c) → xs ≡ ys
canonical_unique xs ys cx cy same =
    canonical_unique_from 0 xs ys cx cy (λ c. elim (cases_lt code_point_max c) [
      | inl past ↦ no_member_past_end xs c cx past ∙ sym (no_member_past_end ys c cy past)
      | inr within ↦ same c within
    ])

-- the comparison of both ends decides equality of intervals
pub Decides-bounds_eq : (a b : Bounds) → Decides (bounds_eq a b) (a ≡ b)
Decides-bounds_eq a b = (
  λ t. (let both = and_parts (a.first == b.first) (a.last == b.last) t in
      ap₂ (λ f l. pair f l) (eqb-true a.first b.first both.0) (eqb-true a.last b.last both.1)),
  λ e. and_from (a.first == b.first) (a.last == b.last) (eq-eqb a.first b.first (ap (λ (iv : Bounds). iv.first) e))
      (eq-eqb a.last b.last (ap (λ (iv : Bounds). iv.last) e)),
)

-- the pointwise comparison decides equality of lists
pub Decides-lists : (xs ys : List Bounds) (t : Bool) → t ≡ pointwise bounds_eq xs ys → Decides t (xs ≡ ys)
Decides-lists xs ys t made = slice_eq-Decides Decides-bounds_eq xs ys t made

-- for canonical lists it decides equality of members
pub Decides-members : (xs ys : List Bounds) (t : Bool) → IsCanonical xs → IsCanonical ys → Decides t (xs ≡ ys)
    → Decides t ((c : ℕ) → c ≤ code_point_max → is_member xs c ≡ is_member ys c)
Decides-members xs ys t cx cy decides =
    (λ passed. λ c within. ap (λ l. is_member l c) (decides.0 passed), λ same. decides.1 (canonical_unique xs ys cx cy same))

-- a canonical list has every code point as a member if and only if it is the one interval of all code points
pub Decides-whole : (xs : List Bounds) (t : Bool) → IsCanonical xs → Decides t (xs ≡ pair 0 code_point_max ∷ [])
    → Decides t ((c : ℕ) → c ≤ code_point_max → is_member xs c ≡ true)
Decides-whole xs t can decides =
    let all : (c : ℕ) → c ≤ code_point_max → is_member (pair 0 code_point_max ∷ []) c ≡ true =
    λ c within. is_member-one (pair 0 code_point_max) c ∙ le-is_within (pair 0 code_point_max) c (omega arith) within in (
      λ passed. λ c within. ap (λ l. is_member l c) (decides.0 passed) ∙ all c within,
      λ whole. decides.1 (canonical_unique xs (pair 0 code_point_max ∷ []) can refl (λ c within. whole c within ∙ sym (all c within))),
    )

pub Decides-none : (xs : List Bounds) (t : Bool) → IsCanonical xs → Decides t (xs ≡ [])
    → Decides t ((c : ℕ) → c ≤ code_point_max → is_member xs c ≡ false)
Decides-none xs t can decides = (
  λ passed. λ c within. ap (λ l. is_member l c) (decides.0 passed) ∙ is_member-nil c,
  λ none. decides.1 (canonical_unique xs [] can refl (λ c within. none c within ∙ sym (is_member-nil c))),
)
