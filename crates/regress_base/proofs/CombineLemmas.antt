-- Membership while two lists are traversed at once.
use Rattle.std.proofs.Common.{◌≡◌, ℕ, ◌+◌, ◌<◌, ◌≤◌, Bool, true, false, ◌||◌, ◌&&◌, inl, inr, IsTrue, nat_le, leb-true, List, [], ◌∷◌, ◌++◌, length, take, drop, get_or, max, min, refl, sym, ap, ap₂, ◌∙◌, subst, suc, add-one, ◌⊎◌, arith}
use Rattle.std.proofs.lemmas.Bool.{and_left, and_right, and_from, and_parts, true≢false, false_from_ne_true, cases_lt, cond-true, cond-false, le-leb}
use Rattle.std.proofs.lemmas.List.{drop_all, append-nil, get_or_read}
use Rattle.regress_base.specs.Intervals.{Bounds, IsInterval, is_within, is_member, is_canonical_from, IsCanonical}
use Rattle.regress_base.specs.Overlap.{overlap}
use Rattle.regress_base.proofs.WithinLemmas.{pair, is_within_overlap, is_within-true}
use Rattle.regress_base.proofs.MemberLemmas.{is_member-nil, is_member-one, is_member-append, is_member-take_more, is_member-drop_more, or_assoc}
use Rattle.std.proofs.Math.Bool.{or-false}
use Rattle.regress_base.proofs.CanonicalLemmas.{canonical_after, canonical_at, canonical_apart, canonical_cons, canonical_append, next_low, next_low-nil, next_low-push, no_member_below}

move_left : (a b w : Bool) → ((a || b) || w) ≡ ((a || w) || b)
move_left true b w = refl
move_left false true true = refl
move_left false true false = refl
move_left false false w = sym (or-false w)

-- one more interval of the left or of the right list
pub union_left : (xs : List Bounds) (i c : ℕ) (x : Bounds) (old new rest : Bool) → i < length xs → x ≡ get_or xs i x
    → new ≡ (old || is_within x c) → old ≡ (is_member (take i xs) c || rest) → new ≡ (is_member (take (i + 1) xs) c || rest)
union_left xs i c x old new rest inside read added so_far =
    let more : is_member (take (i + 1) xs) c ≡ (is_member (take i xs) c || is_within x c) = is_member-take_more xs i c x inside
    ∙ ap (λ b. is_member (take i xs) c || is_within b c) (sym read) in
    added ∙ ap (λ b. b || is_within x c) so_far ∙ move_left (is_member (take i xs) c) rest (is_within x c) ∙ ap (λ b. b || rest) (sym more)

pub union_right : (xs : List Bounds) (i c : ℕ) (x : Bounds) (old new rest : Bool) → i < length xs → x ≡ get_or xs i x
    → new ≡ (old || is_within x c) → old ≡ (rest || is_member (take i xs) c) → new ≡ (rest || is_member (take (i + 1) xs) c)
union_right xs i c x old new rest inside read added so_far =
    let more : is_member (take (i + 1) xs) c ≡ (is_member (take i xs) c || is_within x c) = is_member-take_more xs i c x inside
    ∙ ap (λ b. is_member (take i xs) c || is_within b c) (sym read) in
    added ∙ ap (λ b. b || is_within x c) so_far ∙ sym (or_assoc rest (is_member (take i xs) c) (is_within x c))
    ∙ ap (λ b. rest || b) (sym more)

-- no interval after the index contains a code point up to the end of the interval there
none_after : (ivs : List Bounds) (i c : ℕ) (x : Bounds) → IsCanonical ivs → i < length ivs → x ≡ get_or ivs i x → c ≤ x.last
    → is_member (drop (i + 1) ivs) c ≡ false
none_after ivs i c x can inside read below =
    let after : IsTrue (is_canonical_from (x.last + 2) (drop (i + 1) ivs)) =
    subst (λ (n : ℕ). IsTrue (is_canonical_from (x.last + 2) (drop n ivs))) (sym (add-one i))
    (subst (λ (b : Bounds). IsTrue (is_canonical_from (b.last + 2) (drop (suc i) ivs))) (sym read)
    (canonical_after 0 ivs i x can inside)) in
    no_member_below (x.last + 2) (drop (i + 1) ivs) c after (omega arith)

within_and_after : (w b : Bool) → (w ≡ true → b ≡ false) → (w && b) ≡ false
within_and_after true b h = h refl
within_and_after false b h = refl

after_and_within : (b w : Bool) → (w ≡ true → b ≡ false) → (b && w) ≡ false
after_and_within b true h = and_left b true (h refl)
after_and_within b false h = and_right b false refl

-- the left interval overlaps nothing after the right one
meet_first : (o a b l r : Bool) → (a && r) ≡ false → ((o || (a && b)) || (l && (b || r))) ≡ (o || ((a || l) && (b || r)))
meet_first true a b l r h = refl
meet_first false false b l r h = refl
meet_first false true true l r h = refl
meet_first false true false l true h = absurd (true≢false h)
meet_first false true false l false h = and_right l false refl

meet_second : (o a b l r : Bool) → (l && b) ≡ false → ((o || (a && b)) || ((a || l) && r)) ≡ (o || ((a || l) && (b || r)))
meet_second true a b l r h = refl
meet_second false true true l r h = refl
meet_second false true false l r h = refl
meet_second false false true true r h = absurd (true≢false h)
meet_second false false true false r h = refl
meet_second false false false l r h = refl

module _ (left right : List Bounds) (i j c : ℕ) (a b : Bounds) (old new whole : Bool)
    (left_canonical : IsCanonical left) (right_canonical : IsCanonical right)
    (left_in : i < length left) (right_in : j < length right) (left_read : a ≡ get_or left i a) (right_read : b ≡ get_or right j b)
    (added : new ≡ (old || (is_within a c && is_within b c)))
    (so_far : (old || (is_member (drop i left) c && is_member (drop j right) c)) ≡ whole) where
  remainder_of_more : is_member (drop i left) c ≡ (is_within a c || is_member (drop (i + 1) left) c)
  remainder_of_more = is_member-drop_more left i c a left_in ∙ ap (λ x. is_within x c || is_member (drop (i + 1) left) c) (sym left_read)

  right_more : is_member (drop j right) c ≡ (is_within b c || is_member (drop (j + 1) right) c)
  right_more = is_member-drop_more right j c b right_in ∙ ap (λ x. is_within x c || is_member (drop (j + 1) right) c) (sym right_read)

  -- the left interval ends no later than the right one, and is dropped
  pub meet_left : a.last ≤ b.last → (new || (is_member (drop (i + 1) left) c && is_member (drop j right) c)) ≡ whole
  meet_left ends =
      let apart = within_and_after (is_within a c) (is_member (drop (j + 1) right) c)
      (λ within. none_after right j c b right_canonical right_in right_read (let in_a = is_within-true a c within in omega arith)) in
      ap₂ (λ x y. x || (is_member (drop (i + 1) left) c && y)) added right_more
      ∙ meet_first old (is_within a c) (is_within b c) (is_member (drop (i + 1) left) c) (is_member (drop (j + 1) right) c) apart
      ∙ sym (ap₂ (λ x y. old || (x && y)) remainder_of_more right_more) ∙ so_far

  pub meet_right : b.last < a.last → (new || (is_member (drop i left) c && is_member (drop (j + 1) right) c)) ≡ whole
  meet_right ends =
      let apart = after_and_within (is_member (drop (i + 1) left) c) (is_within b c)
      (λ within. none_after left i c a left_canonical left_in left_read (let in_b = is_within-true b c within in omega arith)) in
      ap₂ (λ x y. x || (y && is_member (drop (j + 1) right) c)) added remainder_of_more
      ∙ meet_second old (is_within a c) (is_within b c) (is_member (drop (i + 1) left) c) (is_member (drop (j + 1) right) c) apart
      ∙ sym (ap₂ (λ x y. old || (x && y)) remainder_of_more right_more) ∙ so_far

-- one of the lists is at its end
pub meet_done : (left right : List Bounds) (i j c : ℕ) (old whole : Bool) → (length left ≤ i) ⊎ (length right ≤ j)
    → (old || (is_member (drop i left) c && is_member (drop j right) c)) ≡ whole → old ≡ whole
meet_done left right i j c old whole done so_far =
    let none : (is_member (drop i left) c && is_member (drop j right) c) ≡ false = elim done [
      | inl ended ↦ and_left _ _ (ap (λ l. is_member l c) (drop_all i left ended) ∙ is_member-nil c)
      | inr ended ↦ and_right _ _ (ap (λ l. is_member l c) (drop_all j right ended) ∙ is_member-nil c)
    ] in
    sym (ap (λ b. old || b) none ∙ or-false old) ∙ so_far

pub meet_none : (set left right : List Bounds) (c : ℕ) → set ≡ []
    → (is_member set c || (is_member left c && is_member right c)) ≡ (is_member left c && is_member right c)
meet_none set left right c empty =
    ap (λ l. is_member l c || (is_member left c && is_member right c)) empty
    ∙ ap (λ b. b || (is_member left c && is_member right c)) (is_member-nil c)

-- ---- the common intervals while their list is built

overlap-some : (a b : Bounds) → a.first ≤ b.last → b.first ≤ a.last
    → overlap a b ≡ record { first = max a.first b.first; last = min a.last b.last } ∷ []
unfolding overlap
overlap-some a b left right =
    cond-true _ _ _ (and_from (nat_le a.first b.last) _ (le-leb a.first b.last left) (le-leb b.first a.last right))

overlap-none : (a b : Bounds) → ((a.first ≤ b.last) × (b.first ≤ a.last) → ⊥) → overlap a b ≡ []
unfolding overlap
overlap-none a b apart =
    cond-false _ _ _ (false_from_ne_true _ (λ t. let both = and_parts (nat_le a.first b.last) _ t in
    apart (leb-true a.first b.last both.0, leb-true b.first a.last both.1)))

-- whether two intervals overlap
meets : (a b : Bounds) → ((a.first ≤ b.last) × (b.first ≤ a.last)) ⊎ ((a.first ≤ b.last) × (b.first ≤ a.last) → ⊥)
meets a b =
    elim (cases_lt b.last a.first) [
      | inl before ↦ inr (λ t. omega (arith, before, t.0))
      | inr left ↦ elim (cases_lt a.last b.first) [
        | inl after ↦ inr (λ t. omega (arith, after, t.1))
        | inr right ↦ inl (left, right)
      ]
    ]

overlap-member : (a b : Bounds) (c : ℕ) → is_member (overlap a b) c ≡ (is_within a c && is_within b c)
overlap-member a b c =
    elim (meets a b) [
      | inl both ↦ ap (λ l. is_member l c) (overlap-some a b both.0 both.1) ∙ is_member-one _ c ∙ is_within_overlap a b c
      | inr apart ↦ ap (λ l. is_member l c) (overlap-none a b apart) ∙ is_member-nil c
          ∙ sym (false_from_ne_true _ (λ t. let both = and_parts (is_within a c) (is_within b c) t in
          let in_a = is_within-true a c both.0 in
          let in_b = is_within-true b c both.1 in
          apart (omega (arith, in_a.0, in_b.1), omega (arith, in_b.0, in_a.1))))
    ]

overlap-canonical : (out : List Bounds) (a b : Bounds) → IsCanonical out → IsInterval a → IsInterval b
    → next_low 0 out ≤ max a.first b.first → IsCanonical (out ++ overlap a b)
overlap-canonical out a b can ia ib low =
    elim (meets a b) [
      | inl both ↦
          let ordered_a = ia.ordered in
          let ordered_b = ib.ordered in
          let range_a = ia.in_range in
          let left = both.0 in
          let right = both.1 in
          subst (λ (l : List Bounds). IsCanonical (out ++ l)) (sym (overlap-some a b both.0 both.1))
          (canonical_append 0 out (record { first = max a.first b.first; last = min a.last b.last } ∷ []) can (canonical_cons _ _ [] (record {
            above = low;
            interval = record { ordered = omega arith; in_range = omega arith };
            rest = refl;
          })))
      | inr apart ↦ subst IsCanonical (sym (ap (λ l. out ++ l) (overlap-none a b apart) ∙ append-nil out)) can
    ]

overlap-low : (out : List Bounds) (a b : Bounds) → next_low 0 out ≤ max a.first b.first
    → next_low 0 (out ++ overlap a b) ≤ max (max a.first b.first) (min a.last b.last + 2)
overlap-low out a b low =
    elim (meets a b) [
      | inl both ↦
          let made : next_low 0 (out ++ overlap a b) ≡ min a.last b.last + 2 =
          ap (λ l. next_low 0 (out ++ l)) (overlap-some a b both.0 both.1) ∙ next_low-push 0 out _ in
          omega arith
      | inr apart ↦
          let made : next_low 0 (out ++ overlap a b) ≡ next_low 0 out = ap (λ l. next_low 0 (out ++ l)) (overlap-none a b apart)
          ∙ ap (next_low 0) (append-nil out) in
          omega arith
    ]

-- `out` has the common members of both lists except for those of the remaining intervals, and all of it is before these
pub record Met (left right out : List Bounds) (i j : ℕ) : Type 0 where
  pub canonical : IsCanonical out
  pub room : (d : Bounds) → i < length left → j < length right → next_low 0 out ≤ max (get_or left i d).first (get_or right j d).first
  pub members : (c : ℕ) → (is_member out c || (is_member (drop i left) c && is_member (drop j right) c))
      ≡ (is_member left c && is_member right c)

pub met_none : (left right out : List Bounds) → out ≡ [] → Met left right out 0 0
met_none left right out empty = record {
  canonical = subst IsCanonical (sym empty) refl;
  room = λ d some_left some_right. (let low : next_low 0 out ≡ 0 = ap (next_low 0) empty ∙ next_low-nil 0 in omega arith);
  members = λ c. meet_none out left right c empty;
}

module _ (left right out new : List Bounds) (i j : ℕ) (a b : Bounds) (left_canonical : IsCanonical left)
    (right_canonical : IsCanonical right) (left_in : i < length left) (right_in : j < length right) (left_read : a ≡ get_or left i a)
    (right_read : b ≡ get_or right j b) (pushed : new ≡ out ++ overlap a b) (met : Met left right out i j) where
  interval_left : IsInterval a
  interval_left = subst IsInterval (sym left_read) (canonical_at 0 left i a left_canonical left_in).interval

  interval_right : IsInterval b
  interval_right = subst IsInterval (sym right_read) (canonical_at 0 right j b right_canonical right_in).interval

  low : next_low 0 out ≤ max a.first b.first
  low =
      let room = met.room a left_in right_in in
      let at_left : a.first ≡ (get_or left i a).first = ap (λ (x : Bounds). x.first) left_read in
      let at_right : b.first ≡ (get_or right j a).first = ap (λ (x : Bounds). x.first) (get_or_read right j b right_in right_read a) in
      omega arith

  new_low : next_low 0 new ≤ max (max a.first b.first) (min a.last b.last + 2)
  new_low =
      subst (λ (l : List Bounds). next_low 0 l ≤ max (max a.first b.first) (min a.last b.last + 2)) (sym pushed)
      (overlap-low out a b low)

  new_canonical : IsCanonical new
  new_canonical = subst IsCanonical (sym pushed) (overlap-canonical out a b met.canonical interval_left interval_right low)

  new_members : (c : ℕ) → is_member new c ≡ (is_member out c || (is_within a c && is_within b c))
  new_members c =
      ap (λ l. is_member l c) pushed ∙ is_member-append out (overlap a b) c
      ∙ ap (λ t. is_member out c || t) (overlap-member a b c)

  pub met_left : a.last ≤ b.last → Met left right new (i + 1) j
  met_left ends = record {
    canonical = new_canonical;
    room = λ d next_in right_here.
        let apart = canonical_apart 0 left i (i + 1) d left_canonical (omega arith) next_in in
        let last : a.last ≡ (get_or left i d).last = ap (λ (x : Bounds). x.last) (get_or_read left i a left_in left_read d) in
        let first : b.first ≡ (get_or right j d).first = ap (λ (x : Bounds). x.first) (get_or_read right j b right_in right_read d) in
        let ordered = interval_left.ordered in
        let here = new_low in
        omega arith;
    members = λ c. meet_left left right i j c a b _ _ _ left_canonical right_canonical left_in right_in left_read right_read
        (new_members c) (met.members c) ends;
  }

  pub met_right : b.last < a.last → Met left right new i (j + 1)
  met_right ends = record {
    canonical = new_canonical;
    room = λ d left_here next_in.
        let apart = canonical_apart 0 right j (j + 1) d right_canonical (omega arith) next_in in
        let last : b.last ≡ (get_or right j d).last = ap (λ (x : Bounds). x.last) (get_or_read right j b right_in right_read d) in
        let first : a.first ≡ (get_or left i d).first = ap (λ (x : Bounds). x.first) (get_or_read left i a left_in left_read d) in
        let ordered = interval_right.ordered in
        let here = new_low in
        omega arith;
    members = λ c. meet_right left right i j c a b _ _ _ left_canonical right_canonical left_in right_in left_read right_read
        (new_members c) (met.members c) ends;
  }

-- the result of `push_overlap`
pub pushed_some : (list new : List Bounds) (a b m : Bounds) → a.first ≤ b.last → b.first ≤ a.last → m.first ≡ max a.first b.first
    → m.last ≡ min a.last b.last → new ≡ list ++ m ∷ [] → new ≡ list ++ overlap a b
pushed_some list new a b m left right first last pushed =
    pushed ∙ ap (λ l. list ++ l) (ap₂ (λ f t. pair f t ∷ []) first last ∙ sym (overlap-some a b left right))

pub pushed_none : (list new : List Bounds) (a b : Bounds) → ((a.first ≤ b.last) × (b.first ≤ a.last) → ⊥) → new ≡ list
    → new ≡ list ++ overlap a b
pushed_none list new a b apart kept = kept ∙ sym (ap (λ l. list ++ l) (overlap-none a b apart) ∙ append-nil list)
