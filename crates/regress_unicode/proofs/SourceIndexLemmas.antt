-- The bits of the index of a case mapping.
use Rattle.std.proofs.Common.{◌≡◌, ◌≢◌, ℕ, ◌+◌, ◌*◌, ◌/◌, ◌%◌, ◌^◌, ◌<◌, ◌≤◌, Bool, true, false, ◌&&◌, ◌||◌, ◌==◌, ◌⊎◌, IsTrue, List, [], ◌∷◌, length, take, get_or, set, bit_and, bit_or, nat_le, inl, inr, zero, suc, refl, sym, ap, subst, ◌∙◌, arith, get_or-set_other, get_or-set_same}
use Rattle.std.specs.Int.{bit_at, bit_not, trailing_zeros, w64}
use Rattle.std.specs.List.{list_any}
use Rattle.std.proofs.lemmas.Bool.{cases_eq, cases_lt, eq-eqb, ne_eqb}
use Rattle.std.proofs.lemmas.Bool.Decides.{nat_tests}
use Rattle.std.proofs.Math.Bool.{or-false, or-true}
use Rattle.std.proofs.lemmas.List.{get_or_read, take_all}
use Rattle.std.proofs.lemmas.Nat.Bits.{bit_at-zero, bit_at_set_same, bit_at_set_other, bit_at_clear_same, bit_at_clear_other, bit_at-trailing_zeros}
use Rattle.regress_base.specs.Intervals.{code_point_max}
use Rattle.regress_base.specs.Listing.{lists, is_ascending}
use Rattle.regress_unicode.specs.FoldEntries.{FoldEntry, is_source, has_source}
use Rattle.regress_unicode.specs.ValidEntries.{is_in_order_from, is_in_order}
use Rattle.regress_unicode.specs.SourceIndex.{has_group, HasGroups, ListsSources}
use Rattle.regress_unicode.proofs.SourceLemmas.{has_source-nil}
use Rattle.regress_unicode.proofs.UnfoldLemmas.{listed_none}
use Rattle.regress_unicode.proofs.ListLemmas.{OrderParts, order_parts, order_at}

-- the bits after one is set
pub has_group-set : (groups : List ℕ) (slot k target bit : ℕ) → slot < length groups → k < 64 →
    has_group (set groups slot (bit_or (get_or groups slot 0) (1 * 2 ^ k % 2 ^ 64))) target bit ≡
    (has_group groups target bit || (target / 64 % 64 == slot && bit == k))
unfolding has_group
has_group-set groups slot k target bit inside low =
    let word = bit_or (get_or groups slot 0) (1 * 2 ^ k % 2 ^ 64) in
    elim (cases_eq (target / 64 % 64) slot) [
      | inl e ↦ rw (e, get_or-set_same groups slot word 0 inside, eq-eqb slot slot refl) (by_bit (cases_eq bit k))
      | inr ne ↦ rw (get_or-set_other groups slot (target / 64 % 64) word 0 ne, ne_eqb (target / 64 % 64) slot ne)
          (sym (or-false (bit_at (get_or groups (target / 64 % 64) 0) bit == 1)))
    ]
  where
    by_bit : (bit ≡ k) ⊎ (bit ≢ k) →
        (bit_at (bit_or (get_or groups slot 0) (1 * 2 ^ k % 2 ^ 64)) bit == 1) ≡ ((bit_at (get_or groups slot 0) bit == 1) || (bit == k))
    by_bit (inl same) = rw (same, bit_at_set_same w64 (get_or groups slot 0) k low, eq-eqb k k refl)
        (sym (or-true (bit_at (get_or groups slot 0) k == 1)))
    by_bit (inr other) = rw (bit_at_set_other w64 (get_or groups slot 0) k low bit other, ne_eqb bit k other)
        (sym (or-false (bit_at (get_or groups slot 0) bit == 1)))

abbrev pub with_group : List ℕ → (slot k : ℕ) → List ℕ
with_group groups slot k = set groups slot (bit_or (get_or groups slot 0) (1 * 2 ^ k % 2 ^ 64))

-- no bit is cleared
pub has_group-kept : (groups : List ℕ) (slot k target bit : ℕ) → slot < length groups → k < 64 →
    has_group (with_group groups slot k) target bit ≡ false → has_group groups target bit ≡ false
has_group-kept groups slot k target bit inside low outside =
    by_old (has_group groups target bit) (sym (has_group-set groups slot k target bit inside low) ∙ outside)
  where
    by_old : (b : Bool) → (b || (target / 64 % 64 == slot && bit == k)) ≡ false → b ≡ false
    by_old true e = e
    by_old false e = refl

-- the bit is set for the blocks so far, and for one more
pub has_group-added : (groups : List ℕ) (first block k : ℕ) → block % 64 < length groups → k < 64 →
    ((target : ℕ) → first ≤ target / 64 → target / 64 < block → has_group groups target k ≡ true) →
    (target : ℕ) → first ≤ target / 64 → target / 64 < block + 1 → has_group (with_group groups (block % 64) k) target k ≡ true
has_group-added groups first block k inside low added target from to =
    has_group-set groups (block % 64) k target k inside low ∙ by_block (cases_eq (target / 64) block)
  where
    by_block : (target / 64 ≡ block) ⊎ (target / 64 ≢ block) →
        (has_group groups target k || (target / 64 % 64 == block % 64 && k == k)) ≡ true
    by_block (inl same) = rw (eq-eqb (target / 64 % 64) (block % 64) (ap (λ b. b % 64) same), eq-eqb k k refl)
        (or-true (has_group groups target k))
    by_block (inr other) = rw (added target from (omega arith)) refl

-- one more entry has its bit
pub has_groups-more : (old new : List ℕ) (mappings : List FoldEntry) (i : ℕ) (mapping : FoldEntry) → i < length mappings →
    mapping ≡ get_or mappings i mapping →
    ((target bit : ℕ) → has_group new target bit ≡ false → has_group old target bit ≡ false) →
    ((target c : ℕ) → i < 256 → has_group new target (i / 4) ≡ false → is_source mapping target c ≡ false) →
    HasGroups old mappings i → HasGroups new mappings (i + 1)
has_groups-more old new mappings i mapping inside is kept added before target c k d lt within low outside =
    elim (cases_eq k i) [
      | inl same ↦ (
          let here = added target c (omega arith) (subst (λ (n : ℕ). has_group new target (n / 4) ≡ false) same outside) in
          let entry = get_or_read mappings i mapping inside is d in
          subst (λ (n : ℕ). is_source (get_or mappings n d) target c ≡ false) (sym same)
          (subst (λ (r : FoldEntry). is_source r target c ≡ false) entry here))
      | inr other ↦ before target c k d (omega arith) within low (kept target (k / 4) outside)
    ]

-- entries that map nothing to the target
pub has_source-skipped : (mappings : List FoldEntry) (i j target c : ℕ) → i ≤ j →
    ((k : ℕ) (d : FoldEntry) → i ≤ k → k < j → k < length mappings → is_source (get_or mappings k d) target c ≡ false) →
    has_source (take i mappings) target c ≡ has_source (take j mappings) target c
unfolding has_source
has_source-skipped [] i j target c le none = nothing i ∙ sym (nothing j)
  where
    nothing : (n : ℕ) → list_any (λ (mapping : FoldEntry). is_source mapping target c) (take n []) ≡ false
    nothing zero = refl
    nothing (suc n) = refl
has_source-skipped (mapping ∷ mappings) zero zero target c le none = refl
has_source-skipped (mapping ∷ mappings) zero (suc j) target c le none =
    rw (none zero mapping (omega arith) (omega arith) (omega arith))
    (has_source-skipped mappings zero j target c (omega arith) (λ k d from to within. none (suc k) d (omega arith) (omega arith) (omega arith)))
has_source-skipped (mapping ∷ mappings) (suc i) zero target c le none = absurd (omega arith)
has_source-skipped (mapping ∷ mappings) (suc i) (suc j) target c le none =
    ap (λ b. is_source mapping target c || b)
    (has_source-skipped mappings i j target c (omega arith) (λ k d from to within. none (suc k) d (omega arith) (omega arith) (omega arith)))

-- what the entries before one map is below it
pub has_source-below : (low : ℕ) (mappings : List FoldEntry) (i target x : ℕ) (d : FoldEntry) → IsTrue (is_in_order_from low mappings) →
    i < length mappings → has_source (take i mappings) target x ≡ true → x < (get_or mappings i d).start
unfolding has_source
has_source-below low [] i target x d h lt listed = absurd (omega arith)
has_source-below low (mapping ∷ mappings) zero target x d h lt listed = absurd (false_is_not_true listed)
  where
    false_is_not_true : false ≡ true → ⊥
    false_is_not_true e = cc
has_source-below low (mapping ∷ mappings) (suc i) target x d h lt listed =
    by_first (is_source mapping target x) refl (has_source-below (mapping.start + mapping.length) mappings i target x d parts.rest (omega arith)) listed
  where
    parts : OrderParts low mapping mappings
    parts = order_parts low mapping mappings h

    by_first : (b : Bool) → is_source mapping target x ≡ b →
        (has_source (take i mappings) target x ≡ true → x < (get_or mappings i d).start) →
        (b || list_any (λ (mapping : FoldEntry). is_source mapping target x) (take i mappings)) ≡ true → x < (get_or mappings i d).start
    by_first true e rest listed =
        let above = order_at (mapping.start + mapping.length) mappings i d parts.rest (omega arith) in
        let within : x < mapping.start + mapping.length = grind (arith, nat_tests, e) in
        omega (arith, above, within)
    by_first false e rest listed = rest listed

-- ---- the list of what the first entries map to the target

-- the same list, with entries that map nothing to the target
pub lists-skipped : (list : List ℕ) (mappings : List FoldEntry) (i j target : ℕ) → i ≤ j →
    ((c k : ℕ) (d : FoldEntry) → i ≤ k → k < j → k < length mappings → is_source (get_or mappings k d) target c ≡ false) →
    ListsSources list mappings i target → ListsSources list mappings j target
lists-skipped list mappings i j target le none listed = record {
  ascending = listed.ascending;
  members = λ x. listed.members x ∙ ap (λ b. nat_le x code_point_max && b) (has_source-skipped mappings i j target x le (none x));
}

-- the list at the end of the entries, where they end first
pub lists-to : (list : List ℕ) (mappings : List FoldEntry) (i end target : ℕ) → (end ≤ length mappings → i ≡ end) →
    (length mappings < end → length mappings ≤ i) → ListsSources list mappings i target → ListsSources list mappings end target
lists-to list mappings i end target within beyond listed =
    elim (cases_lt (length mappings) end) [
      | inl lt ↦ (
          let all : take i mappings ≡ take end mappings = take_all i mappings (beyond lt) ∙ sym (take_all end mappings (omega (arith, lt))) in
          record {
            ascending = listed.ascending;
            members = λ x. listed.members x ∙ ap (λ (rs : List FoldEntry). nat_le x code_point_max && has_source rs target x) all;
          })
      | inr le ↦ subst (λ (n : ℕ). ListsSources list mappings n target) (within (omega (arith, le))) listed
    ]

-- the list is below the next entry
pub lists-below : (list : List ℕ) (mappings : List FoldEntry) (i target : ℕ) (mapping : FoldEntry) (source : ℕ) → IsTrue (is_in_order mappings) →
    i < length mappings → mapping ≡ get_or mappings i mapping → mapping.start ≤ source → ListsSources list mappings i target →
    (x : ℕ) → lists list x ≡ true → x < source
lists-below list mappings i target mapping source order inside is from listed x member =
    let start = has_source-below 0 mappings i target x mapping order inside (right (nat_le x code_point_max) _ (sym (listed.members x) ∙ member)) in
    let same : mapping.start ≡ (get_or mappings i mapping).start = ap (λ (r : FoldEntry). r.start) is in
    omega (arith, start, same)
  where
    right : (a b : Bool) → (a && b) ≡ true → b ≡ true
    right true b e = e
    right false b e = cc

-- nothing is mapped to the target so far
pub lists-none : (list : List ℕ) (mappings : List FoldEntry) (target : ℕ) → list ≡ [] → ListsSources list mappings 0 target
lists-none list mappings target is = record {
  ascending = subst (λ (l : List ℕ). IsTrue (is_ascending l)) (sym is) refl;
  members = λ x. rw (has_source-nil target x) (listed_none list x is);
}

-- ---- the bits of the groups that are left

-- Of the entries from `end` on, those that map a code point to the target have their bits. Those before have none.
pub record AreLeft (left : ℕ) (mappings : List FoldEntry) (end target : ℕ) : Type 0 where
  pub set : (c i : ℕ) (d : FoldEntry) → end ≤ i → i < length mappings → i < 256 → (bit_at left (i / 4) == 1) ≡ false →
      is_source (get_or mappings i d) target c ≡ false
  pub cleared : (k : ℕ) → k * 4 < end → bit_at left k ≡ 0
  pub bound : end ≤ 256

-- before the first group all are left
pub left-all : (groups : ℕ) (mappings : List FoldEntry) (target : ℕ) →
    ((c i : ℕ) (d : FoldEntry) → i < length mappings → i < 256 → (bit_at groups (i / 4) == 1) ≡ false → is_source (get_or mappings i d) target c ≡ false) →
    AreLeft groups mappings 0 target
left-all groups mappings target set = record {
  set = λ c i d from. set c i d;
  cleared = λ k lt. absurd (omega arith);
  bound = omega arith;
}

not_one : (n : ℕ) → n ≡ 0 → (n == 1) ≡ false
not_one n e = rw e refl

-- the entries of the lowest group are left
pub left-start : (left : ℕ) (mappings : List FoldEntry) (end target : ℕ) → AreLeft left mappings end target → 0 < left → left < 2 ^ 64 →
    end ≤ trailing_zeros w64 left * 4
left-start left mappings end target are some fits =
    let lowest = bit_at-trailing_zeros w64 left some fits in
    elim (cases_lt (trailing_zeros w64 left * 4) end) [
      | inl before ↦ (let none = are.cleared (trailing_zeros w64 left) before in
          let one = lowest.1 in
          absurd (omega (arith, none, one)))
      | inr after ↦ omega (arith, after)
    ]

-- the entries before the lowest group map nothing to the target
pub left-skipped : (list : List ℕ) (left : ℕ) (mappings : List FoldEntry) (end target : ℕ) → AreLeft left mappings end target → 0 < left → left < 2 ^ 64 →
    ListsSources list mappings end target → ListsSources list mappings (trailing_zeros w64 left * 4) target
left-skipped list left mappings end target are some fits listed =
    let lowest = bit_at-trailing_zeros w64 left some fits in
    lists-skipped list mappings end (trailing_zeros w64 left * 4) target (left-start left mappings end target are some fits)
    (λ c k d from to within. are.set c k d from within (omega (arith, to, lowest.0)) (not_one _ (lowest.2 (k / 4) (omega (arith, to)))))
    listed

-- the groups that are left after the lowest one
pub left-next : (left : ℕ) (mappings : List FoldEntry) (end target : ℕ) → AreLeft left mappings end target → 0 < left → left < 2 ^ 64 →
    AreLeft (bit_and left (bit_not w64 (1 * 2 ^ trailing_zeros w64 left % 2 ^ 64))) mappings (trailing_zeros w64 left * 4 + 4) target
left-next left mappings end target are some fits = record {
  set = λ c i d from within low other. (
      let place = lowest.0 in
      let apart : i / 4 ≢ trailing_zeros w64 left = λ same. absurd (omega (arith, from, same)) in
      let same = bit_at_clear_other w64 left (trailing_zeros w64 left) place (i / 4) (omega (arith, low)) apart in
      are.set c i d (omega (arith, from, left-start left mappings end target are some fits)) within low (ap (λ b. b == 1) (sym same) ∙ other));
  cleared = λ k before. elim (cases_eq k (trailing_zeros w64 left)) [
    | inl same ↦ rw same (bit_at_clear_same w64 left (trailing_zeros w64 left) lowest.0)
    | inr other ↦ (let place = lowest.0 in
        bit_at_clear_other w64 left (trailing_zeros w64 left) place k (omega (arith, before, other, place)) other ∙ lowest.2 k (omega (arith, before, other)))
  ];
  bound = (let place = lowest.0 in omega (arith, place));
}
  where
    lowest : (trailing_zeros w64 left < 64) × (bit_at left (trailing_zeros w64 left) ≡ 1) × ((i : ℕ) → i < trailing_zeros w64 left → bit_at left i ≡ 0)
    lowest = bit_at-trailing_zeros w64 left some fits

-- without a bit left, no other of the first entries maps a code point to the target
pub left-none : (list : List ℕ) (left : ℕ) (mappings : List FoldEntry) (end target : ℕ) → AreLeft left mappings end target → left ≡ 0 →
    ListsSources list mappings end target → ListsSources list mappings 256 target
left-none list left mappings end target are none listed =
    lists-skipped list mappings end 256 target are.bound
    (λ c k d from to within. are.set c k d from within to (not_one _ (ap (λ n. bit_at n (k / 4)) none ∙ bit_at-zero (k / 4))))
    listed
