-- Properties of the set that a `ByteBitmap` represents.
use Rattle.std.proofs.Common.{◌≡◌, ℕ, ◌+◌, ◌*◌, ◌^◌, ◌<◌, Bool, true, false, ◌&&◌, ◌||◌, eqb, ltb, List, [], leb, length, get_or, set, bit_or, take, map, ◌/◌, ◌%◌, ◌≤◌, Decides, zero-add, refl, ap, sym, ◌∙◌, arith, inl, inr}
use Rattle.std.specs.Int.{bit_at}
use Rattle.std.specs.Int.RustNames.{count_ones}
use Rattle.std.specs.List.{range_with_len, list_any}
use Rattle.std.specs.Cmp.{booleans_Decides}
use Rattle.std.specs.Cmp.Lexicographic.{pointwise_decides}
use Rattle.std.proofs.lemmas.Bool.{false≢true, cases_lt, cases_eq, lt-ltb, le-ltb, lt-leb, eq-eqb, ne_eqb, and_right, or_right}
use Rattle.std.proofs.lemmas.Bool.Decides.{nat_tests}
use Rattle.std.proofs.lemmas.List.{ext_get_or}
use Rattle.std.proofs.lemmas.List.FromFn.{get_or-map-range_with_len}
use Rattle.std.proofs.lemmas.List.Folds.{list_any_more}
use Rattle.std.proofs.lemmas.Nat.{div-mul-add, mod-mul-add}
use Rattle.std.proofs.lemmas.Nat.Bits.{bit_at-lt, same_from_bits_below}
use Rattle.regress_base.specs.ByteBitmap.{contains, same_members}
use Rattle.regress_base.specs.ByteSets.{bit_in, bytes_of, all_bytes, SameMembers}
use Rattle.regress_base.specs.ByteLemmas.{contains-bytes_only}
use Rattle.regress_base.specs.declared.bytesearch.bitmap.ByteBitmap.{ByteBitmap}
use Rattle.regress_base.proofs.CellLemmas.{or-guarded, bit_in-with_mask}
use Rattle.regress_base.proofs.CountLemmas.{count_below, count_below-add, count_below-agree, count_ones-bits}

-- ---- bitmaps with the same members have the same words

same_bit : (x y : ℕ) → x < 2 → y < 2 → eqb x 1 ≡ eqb y 1 → x ≡ y
same_bit x y p q e =
    elim (cases_lt x 1) [
      | inl a ↦ elim (cases_lt y 1) [
        | inl b ↦ omega arith
        | inr b ↦
            let one : y ≡ 1 = omega arith in
            let zero' : x ≡ 0 = omega arith in
            let t : eqb 0 1 ≡ eqb 1 1 = ap (λ k. eqb k 1) (sym zero') ∙ e ∙ ap (λ k. eqb k 1) one in
            cc
      ]
      | inr a ↦ elim (cases_lt y 1) [
        | inl b ↦
            let one : x ≡ 1 = omega arith in
            let zero' : y ≡ 0 = omega arith in
            let t : eqb 1 1 ≡ eqb 0 1 = ap (λ k. eqb k 1) (sym one) ∙ e ∙ ap (λ k. eqb k 1) zero' in
            cc
        | inr b ↦ omega arith
      ]
    ]

bit_in-position : (n : ℕ) (xs : List ℕ) (k i : ℕ) → i < n → bit_in n xs (k * n + i) ≡ eqb (bit_at (get_or xs k 0) i) 1
unfolding bit_in
bit_in-position n xs k i low = rw (div-mul-add k n i low, mod-mul-add k n i low) refl

same_cell : (n : ℕ) (xs ys : List ℕ) (k : ℕ) → get_or xs k 0 < 2 ^ n → get_or ys k 0 < 2 ^ n
    → ((i : ℕ) → i < n → bit_in n xs (k * n + i) ≡ bit_in n ys (k * n + i)) → get_or xs k 0 ≡ get_or ys k 0
same_cell n xs ys k fx fy same =
    same_from_bits_below n (get_or xs k 0) (get_or ys k 0) fx fy (λ i low.
    same_bit (bit_at (get_or xs k 0) i) (bit_at (get_or ys k 0) i) (bit_at-lt (get_or xs k 0) i) (bit_at-lt (get_or ys k 0) i)
    (sym (bit_in-position n xs k i low) ∙ same i low ∙ bit_in-position n ys k i low))

same_word : (s t : ByteBitmap) (k : ℕ) → k < 16 → get_or s.words k 0 < 2 ^ 16 → get_or t.words k 0 < 2 ^ 16
    → SameMembers (contains s) (contains t) → get_or s.words k 0 ≡ get_or t.words k 0
unfolding contains
same_word s t k inside fs ft same =
    same_cell 16 s.words t.words k fs ft (λ i low.
    let byte : k * 16 + i < 256 = omega arith in
    let e : (ltb (k * 16 + i) 256 && bit_in 16 s.words (k * 16 + i))
    ≡ (ltb (k * 16 + i) 256 && bit_in 16 t.words (k * 16 + i)) = same (k * 16 + i) in
    rw (lt-ltb (k * 16 + i) 256 byte) at e)

members_from_words : (s t : ByteBitmap) → s.words ≡ t.words → SameMembers (contains s) (contains t)
unfolding contains
members_from_words s t e = λ b. ap (λ ws. ltb b 256 && bit_in 16 ws b) e

-- tests with the same results on the numbers below n agree there
agree_below : (n : ℕ) (p q : ℕ → Bool) → map p (range_with_len 0 n) ≡ map q (range_with_len 0 n) → (b : ℕ) → b < n → p b ≡ q b
agree_below n p q e b h =
    sym (get_or-map-range_with_len p 0 n b b false h (zero-add b)) ∙ ap (λ fs. get_or fs b false) e
    ∙ get_or-map-range_with_len q 0 n b b false h (zero-add b)

members_from_flags : (s t : ByteBitmap) → map (contains s) all_bytes ≡ map (contains t) all_bytes → SameMembers (contains s) (contains t)
unfolding all_bytes
members_from_flags s t e = λ b.
    elim (cases_lt b 256) [
      | inl h ↦ agree_below 256 (contains s) (contains t) e b h
      | inr h ↦ contains-bytes_only s b h ∙ sym (contains-bytes_only t b h)
    ]

-- bitmaps that differ in a word differ in a member
pub different_word : (s t : ByteBitmap) (k : ℕ) → k < 16 → get_or s.words k 0 < 2 ^ 16 → get_or t.words k 0 < 2 ^ 16
    → (get_or s.words k 0 ≡ get_or t.words k 0 → ⊥) → Decides false (SameMembers (contains s) (contains t))
different_word s t k inside fs ft differ =
    (λ e. absurd (false≢true e), λ same. absurd (differ (same_word s t k inside fs ft same)))

-- bitmaps with equal words have the same members
pub equal_words : (s t : ByteBitmap) → length s.words ≡ 16 → length t.words ≡ 16
    → ((k : ℕ) → k < 16 → get_or s.words k 0 ≡ get_or t.words k 0) → SameMembers (contains s) (contains t)
equal_words s t ls lt same =
    members_from_words s t (ext_get_or 0 s.words t.words (ls ∙ sym lt) (λ k inside. same k (omega arith)))

-- `==` on bitmaps decides equality of their members
pub same_members-Decides : (s t : ByteBitmap) → Decides (same_members s t) (SameMembers (contains s) (contains t))
same_members-Decides s t =
    let d = pointwise_decides booleans_Decides (map (contains s) all_bytes) (map (contains t) all_bytes) in
    (λ e. members_from_flags s t (d.0 e), λ h. d.1 (λ i. map (λ b. h b i) all_bytes))

-- ---- a bitmap of a list of bytes

pub bytes_of-none : (b : ℕ) → bytes_of [] b ≡ false
unfolding bytes_of
bytes_of-none b = and_right (ltb b 256) false refl

or_turned : (v b : ℕ) (x : Bool) → (x || eqb v b) ≡ (eqb b v || x)
or_turned v b x =
    elim (cases_eq b v) [
      | inl e ↦ rw (e, eq-eqb v v refl) (or_right x true refl)
      | inr ne ↦ rw (ne_eqb b v ne, ne_eqb v b (λ e. ne (sym e))) (elim x as (λ y. (y || false) ≡ y) [ true ↦ refl | false ↦ refl ])
    ]

pub bytes_of-more : (xs : List ℕ) (i b : ℕ) → i < length xs → get_or xs i 0 < 256
    → bytes_of (take (i + 1) xs) b ≡ (eqb b (get_or xs i 0) || bytes_of (take i xs) b)
unfolding bytes_of
bytes_of-more xs i b inside byte =
    let v = get_or xs i 0 in
    let old = list_any (λ x. eqb x b) (take i xs) in
    ap (λ x. ltb b 256 && x) (list_any_more (λ x. eqb x b) xs i 0 inside ∙ or_turned v b old) ∙ or-guarded 256 v b old byte

-- ---- a bitmap to which a run is added word by word

-- the bounds of a run within one word, which is between the words of its first and its last byte
pub record IsRunWithin (first last word low high : ℕ) : Type 0 where
  pub from : first / 16 ≤ word
  pub to : word ≤ last / 16
  pub low_first : word ≡ first / 16 → low ≡ first % 16
  pub low_else : (word ≡ first / 16 → ⊥) → low ≡ 0
  pub high_last : word ≡ last / 16 → high ≡ last % 16
  pub high_else : (word ≡ last / 16 → ⊥) → high ≡ 15

run_bit : (first last word low high b : ℕ) → IsRunWithin first last word low high → b / 16 ≡ word
    → (leb low (b % 16) && leb (b % 16) high) ≡ (leb first b && leb b last)
run_bit first last word low high b run at =
    let from = run.from in
    let to = run.to in
    elim (cases_eq word (first / 16)) [
      | inl f ↦
          let l = run.low_first f in
          elim (cases_eq word (last / 16)) [
            | inl e ↦ let h = run.high_last e in grind (arith, nat_tests)
            | inr ne ↦ let h = run.high_else ne in grind (arith, nat_tests)
          ]
      | inr nf ↦
          let l = run.low_else nf in
          elim (cases_eq word (last / 16)) [
            | inl e ↦ let h = run.high_last e in grind (arith, nat_tests)
            | inr ne ↦ let h = run.high_else ne in grind (arith, nat_tests)
          ]
    ]

or_turned_and : (t x : Bool) → (x || t) ≡ ((t && true) || x)
or_turned_and true true = refl
or_turned_and true false = refl
or_turned_and false true = refl
or_turned_and false false = refl

both_false : (g x t : Bool) → (g && (x || false)) ≡ ((t && false) || (g && x))
both_false g true true = refl
both_false g true false = refl
both_false g false true = refl
both_false g false false = refl

pub run_joins : (s : ByteBitmap) (first last word low high mask b : ℕ) → length s.words ≡ 16 → last < 256
    → IsRunWithin first last word low high
    → ((k : ℕ) → k < 16 → eqb (bit_at mask k) 1 ≡ (leb low k && leb k high))
    → contains (record { words = set s.words word (bit_or (get_or s.words word 0) mask) }) b
    ≡ (((leb first b && leb b last) && eqb (b / 16) word) || contains s b)
unfolding contains
run_joins s first last word low high mask b len byte run bits =
    let to = run.to in
    let inside = leb first b && leb b last in
    let set = bit_in-with_mask 16 s.words word mask b (omega arith) in
    let bit = bits (b % 16) (omega arith) in
    elim (cases_eq (b / 16) word) [
      | inl at ↦
          let same = bit ∙ run_bit first last word low high b run at in
          rw (set, same, at, eq-eqb word word refl) (elim (cases_lt b 256) [
            | inl small ↦ rw (lt-ltb b 256 small) (or_turned_and inside (bit_in 16 s.words b))
            | inr large ↦ rw (le-ltb b 256 large, lt-leb b last (omega arith))
                (elim (leb first b) as (λ t. false ≡ ((t && false) && true || false)) [ true ↦ refl | false ↦ refl ])
          ])
      | inr apart ↦ rw (set, ne_eqb (b / 16) word apart) (both_false (ltb b 256) (bit_in 16 s.words b) inside)
    ]

-- the bytes of the words up to `word` are those before it and its own
pub run_more : (inside old : Bool) (b word : ℕ)
    → ((inside && eqb (b / 16) word) || ((inside && ltb b (word * 16)) || old)) ≡ ((inside && ltb b ((word + 1) * 16)) || old)
run_more false old b word = refl
run_more true old b word = grind (arith, nat_tests)

-- ---- the number of members of a bitmap

word_bit : (s : ByteBitmap) (i k : ℕ) → i < 16 → k < 16 → contains s (i * 16 + k) ≡ eqb (bit_at (get_or s.words i 0) k) 1
unfolding contains
word_bit s i k inside low = rw (lt-ltb (i * 16 + k) 256 (omega arith)) (bit_in-position 16 s.words i k low)

pub count_below-word : (s : ByteBitmap) (i : ℕ) → i < 16 → get_or s.words i 0 < 2 ^ 16
    → count_below (contains s) ((i + 1) * 16) ≡ count_below (contains s) (i * 16) + count_ones (get_or s.words i 0)
count_below-word s i inside fits =
    let e : (i + 1) * 16 ≡ i * 16 + 16 = omega arith in
    let parts = ap (count_below (contains s)) e ∙ count_below-add (contains s) (i * 16) 16 in
    let bits' = count_below-agree (λ k. contains s (i * 16 + k)) (λ k. eqb (bit_at (get_or s.words i 0) k) 1) 16
    (λ k low. word_bit s i k inside low) in
    let ones = count_ones-bits 16 (get_or s.words i 0) fits in
    omega arith
