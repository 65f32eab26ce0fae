-- The code points that a shift maps a set to.
use Rattle.std.proofs.Common.{◌≡◌, ◌≢◌, ℕ, ◌+◌, ◌-◌, ◌%◌, ◌<◌, ◌≤◌, Bool, true, false, ◌&&◌, ◌||◌, nat_le, nat_lt, ◌==◌, IsTrue, List, [], ◌∷◌, length, take, get_or, suc, zero, min, max, ℤ, pos, negsuc, refl, sym, ap, ◌∙◌, inl, inr, arith}
use Rattle.std.proofs.lemmas.Bool.{cases_eq, cases_Bool, eq-eqb}
use Rattle.std.proofs.lemmas.Bool.Decides.{nat_tests}
use Rattle.std.proofs.lemmas.List.{take_all}
use Rattle.std.proofs.lemmas.List.Folds.{list_any_more}
use Rattle.std.specs.List.{list_any}
use Rattle.std.proofs.Math.Bool.{or-false}
use Rattle.regress_base.proofs.lemmas.Sets.{is_member-nil, is_member-take_more, or_assoc, canonical_parts}
use Rattle.regress_base.specs.Intervals.{Bounds, is_within, is_member, is_canonical_from}
use Rattle.regress_unicode.specs.declared.shift.Shift.{Shift}
use Rattle.regress_unicode.specs.FoldEntries.{FoldEntry, moved}
use Rattle.regress_unicode.specs.ValidEntries.{stays_in_range}
use Rattle.regress_unicode.specs.Shifts.{IsShift, is_mapped, origin, maps_to, maps_to_by}

-- a shift of the union of two tests
pub maps_to-or : (s : Shift) (p q r : ℕ → Bool) (c : ℕ) → ((x : ℕ) → r x ≡ (p x || q x)) → maps_to s r c ≡ (maps_to s p c || maps_to s q c)
unfolding maps_to
maps_to-or s p q r c h = let e = h (origin s.delta c) in grind (arith, nat_tests, e)

pub maps_to-none : (s : Shift) (p : ℕ → Bool) (c : ℕ) → ((x : ℕ) → p x ≡ false) → maps_to s p c ≡ false
unfolding maps_to
maps_to-none s p c h = let e = h (origin s.delta c) in grind (arith, nat_tests, e)

-- ---- one interval

pub overlap_none : (s : Shift) (iv : Bounds) (a b c : ℕ) → a ≡ max s.first iv.first → b ≡ min s.last iv.last → b < a →
    maps_to s (is_within iv) c ≡ false
unfolding maps_to is_within
overlap_none s iv a b c is_a is_b lt = grind (arith, nat_tests)

-- a shift with modulo 1 maps an interval as a whole
whole : (s : Shift) (iv : Bounds) (a b c : ℕ) (delta : ℤ) → a ≡ max s.first iv.first → b ≡ min s.last iv.last → a ≤ b →
    IsTrue (stays_in_range delta s.first) → IsTrue (stays_in_range delta s.last) →
    (nat_le (moved delta a) c && nat_le c (moved delta b)) ≡
    ((((nat_le s.first (origin delta c) && nat_le (origin delta c) s.last) && true) &&
    (nat_le iv.first (origin delta c) && nat_le (origin delta c) iv.last)) && (moved delta (origin delta c) == c))
whole s iv a b c (pos n) is_a is_b le first last = grind (arith, nat_tests)
whole s iv a b c (negsuc n) is_a is_b le first last = grind (arith, nat_tests)

pub overlap_whole : (s : Shift) (iv : Bounds) (a b c : ℕ) → IsShift s → s.modulo ≡ 1 → a ≡ max s.first iv.first → b ≡ min s.last iv.last →
    a ≤ b →
    is_within (record { first = moved s.delta a; last = moved s.delta b }) c ≡ maps_to s (is_within iv) c
unfolding maps_to is_within
overlap_whole s iv a b c shift one is_a is_b le =
    let zero_rest : (origin s.delta c - s.first) % s.modulo ≡ 0 = rw one (omega arith) in
    let aligned : ((origin s.delta c - s.first) % s.modulo == 0) ≡ true = eq-eqb _ 0 zero_rest in
    whole s iv a b c s.delta is_a is_b le shift.first_lands shift.last_lands ∙ rw aligned

-- ---- one code point at a time

-- whether a number is from a up to k, k excluded
abbrev pub between : ℕ → ℕ → ℕ → Bool
between a k x = nat_le a x && nat_lt x k

pub lands_between_none : (s : Shift) (a c : ℕ) → maps_to s (between a a) c ≡ false
lands_between_none s a c = maps_to-none s (between a a) c (λ x. grind (arith, nat_tests))

origin_moved : (delta : ℤ) (first k : ℕ) → IsTrue (stays_in_range delta first) → first ≤ k → origin delta (moved delta k) ≡ k
origin_moved (pos n) first k stays le = omega arith
origin_moved (negsuc n) first k stays le = grind (arith, nat_tests, stays)

-- a code point that is mapped adds its result, and any other one adds nothing
lands_one : (s : Shift) (k c : ℕ) → IsShift s → is_mapped s k ≡ true → maps_to s (λ x. x == k) c ≡ (c == moved s.delta k)
unfolding maps_to
lands_one s k c shift hit = elim (cases_eq c (moved s.delta k)) [
  | inl here ↦ (
      let le : s.first ≤ k = grind (arith, nat_tests, hit) in
      let back : origin s.delta c ≡ k = ap (origin s.delta) here ∙ origin_moved s.delta s.first k shift.first_lands le in
      let yes : (c == moved s.delta k) ≡ true = eq-eqb c (moved s.delta k) here in
      let yes' : (moved s.delta k == c) ≡ true = eq-eqb (moved s.delta k) c (sym here) in
      let self : (k == k) ≡ true = eq-eqb k k refl in
      rw (back, hit, self, yes, yes'))
  | inr elsewhere ↦ (
      let no : (c == moved s.delta k) ≡ false = grind (arith, nat_tests, elsewhere) in
      let never : ((origin s.delta c == k) && (moved s.delta (origin s.delta c) == c)) ≡ false = not_back elsewhere in
      rw no (and_false (is_mapped s (origin s.delta c)) (origin s.delta c == k) (moved s.delta (origin s.delta c) == c) never))
]
  where
    and-false : (x : Bool) → (x && false) ≡ false
    and-false true = refl
    and-false false = refl

    and_false : (x y z : Bool) → (y && z) ≡ false → ((x && y) && z) ≡ false
    and_false true y z h = h
    and_false false y z h = refl

    not_back : c ≢ moved s.delta k → ((origin s.delta c == k) && (moved s.delta (origin s.delta c) == c)) ≡ false
    not_back elsewhere = elim (cases_eq (origin s.delta c) k) [
      | inl e ↦ (
          let no : (moved s.delta (origin s.delta c) == c) ≡ false = rw e
          (let ne : moved s.delta k ≢ c = λ h. elsewhere (sym h) in grind (arith, nat_tests, ne)) in
          rw no (and-false (origin s.delta c == k)))
      | inr ne ↦ (let no : (origin s.delta c == k) ≡ false = grind (arith, nat_tests, ne) in rw no)
    ]

lands_no_one : (s : Shift) (k c : ℕ) → is_mapped s k ≡ false → maps_to s (λ x. x == k) c ≡ false
unfolding maps_to
lands_no_one s k c hit = elim (cases_eq (origin s.delta c) k) [
  | inl e ↦ rw (e, hit)
  | inr ne ↦ (let no : (origin s.delta c == k) ≡ false = grind (arith, nat_tests, ne) in
      rw no (never (is_mapped s (origin s.delta c)) (moved s.delta (origin s.delta c) == c)))
]
  where
    never : (x z : Bool) → ((x && false) && z) ≡ false
    never true z = refl
    never false z = refl

pub between_more : (s : Shift) (a k c : ℕ) (old so_far new : Bool) → IsShift s → a ≤ k → is_mapped s k ≡ true →
    so_far ≡ (old || maps_to s (between a k) c) → new ≡ (so_far || (c == moved s.delta k)) → new ≡ (old || maps_to s (between a (k + 1)) c)
between_more s a k c old so_far new shift le hit is_so_far is_new =
    let one = lands_one s k c shift hit in
    let more = maps_to-or s (between a k) (λ x. x == k) (between a (k + 1)) c (λ x. grind (arith, nat_tests)) in
    is_new ∙ rw (is_so_far, more, one) (sym (or_assoc old (maps_to s (between a k) c) (c == moved s.delta k)))

pub between_no_more : (s : Shift) (a k c : ℕ) (old so_far : Bool) → a ≤ k → is_mapped s k ≡ false →
    so_far ≡ (old || maps_to s (between a k) c) → so_far ≡ (old || maps_to s (between a (k + 1)) c)
between_no_more s a k c old so_far le hit is_so_far =
    let one = lands_no_one s k c hit in
    let more = maps_to-or s (between a k) (λ x. x == k) (between a (k + 1)) c (λ x. grind (arith, nat_tests)) in
    is_so_far ∙ rw (more, one, or-false (maps_to s (between a k) c))

pub between_all : (s : Shift) (iv : Bounds) (a b c : ℕ) → a ≡ max s.first iv.first → b ≡ min s.last iv.last →
    maps_to s (between a (b + 1)) c ≡ maps_to s (is_within iv) c
unfolding maps_to is_within
between_all s iv a b c is_a is_b = grind (arith, nat_tests)

-- ---- one more interval, and one more entry

pub intervals_none : (s : Shift) (c : ℕ) (old : Bool) → old ≡ (old || maps_to s (is_member []) c)
intervals_none s c old = sym (or-false old) ∙ ap (λ b. old || b) (sym (maps_to-none s (is_member []) c is_member-nil))

pub intervals_more : (s : Shift) (ivs : List Bounds) (i c : ℕ) (iv : Bounds) (old so_far new : Bool) → i < length ivs →
    iv ≡ get_or ivs i iv →
    so_far ≡ (old || maps_to s (is_member (take i ivs)) c) → new ≡ (so_far || maps_to s (is_within iv) c) →
    new ≡ (old || maps_to s (is_member (take (i + 1) ivs)) c)
intervals_more s ivs i c iv old so_far new lt is is_so_far is_new =
    let more = maps_to-or s (is_member (take i ivs)) (is_within iv) (is_member (take (i + 1) ivs)) c
    (λ x. is_member-take_more ivs i x iv lt ∙ ap (λ v. is_member (take i ivs) x || is_within v x) (sym is)) in
    is_new ∙ rw (is_so_far, more) (sym (or_assoc old (maps_to s (is_member (take i ivs)) c) (maps_to s (is_within iv) c)))

pub intervals_all : (s : Shift) (ivs : List Bounds) (i c : ℕ) (old so_far : Bool) → length ivs ≤ i →
    so_far ≡ (old || maps_to s (is_member (take i ivs)) c) → so_far ≡ (old || maps_to s (is_member ivs) c)
intervals_all s ivs i c old so_far le is = is ∙ ap (λ xs. old || maps_to s (is_member xs) c) (take_all i ivs le)

pub mappings_more : (way : FoldEntry → Shift) (p : ℕ → Bool) (mappings : List FoldEntry) (i c : ℕ) (mapping : FoldEntry) (shift : Shift)
    (old so_far new : Bool) → i < length mappings → mapping ≡ get_or mappings i mapping → shift ≡ way mapping →
    so_far ≡ (old || maps_to_by way (take i mappings) p c) → new ≡ (so_far || maps_to shift p c) →
    new ≡ (old || maps_to_by way (take (i + 1) mappings) p c)
unfolding maps_to_by
mappings_more way p mappings i c mapping shift old so_far new lt is is_shift is_so_far is_new =
    let more = list_any_more (λ r. maps_to (way r) p c) mappings i mapping lt in
    let here : maps_to shift p c ≡ maps_to (way (get_or mappings i mapping)) p c = ap (λ s. maps_to s p c) is_shift ∙ ap (λ r. maps_to (way r) p c) is in
    is_new ∙ rw (is_so_far, here, more) (sym (or_assoc old (list_any (λ r. maps_to (way r) p c) (take i mappings))
    (maps_to (way (get_or mappings i mapping)) p c)))

-- ---- intervals outside the range

-- tests that agree on the range
pub maps_to-same : (s : Shift) (p q : ℕ → Bool) (c : ℕ) → ((x : ℕ) → s.first ≤ x → x ≤ s.last → p x ≡ q x) → maps_to s p c ≡ maps_to s q c
unfolding maps_to
maps_to-same s p q c h = elim (cases_Bool (is_mapped s (origin s.delta c))) [
  | inl hit ↦ (
      let from : s.first ≤ origin s.delta c = grind (arith, nat_tests, hit) in
      let to : origin s.delta c ≤ s.last = grind (arith, nat_tests, hit) in
      ap (λ b. (is_mapped s (origin s.delta c) && b) && (moved s.delta (origin s.delta c) == c)) (h (origin s.delta c) from to))
  | inr no_hit ↦ rw no_hit refl
]

-- two intervals of a canonical list
pub apart_from : (low : ℕ) (ivs : List Bounds) (k : ℕ) (d : Bounds) → IsTrue (is_canonical_from low ivs) → k < length ivs
    → (low ≤ (get_or ivs k d).first) × ((get_or ivs k d).first ≤ (get_or ivs k d).last)
apart_from low [] k d can h = absurd (omega arith)
apart_from low (iv ∷ ivs) zero d can h = (let p = canonical_parts low iv ivs can in (p.above, p.interval.ordered))
apart_from low (iv ∷ ivs) (suc k) d can h =
    let p = canonical_parts low iv ivs can in
    let rest = apart_from (iv.last + 2) ivs k d p.rest (omega arith) in
    (omega (arith, p.above, p.interval.ordered, rest.0), rest.1)
