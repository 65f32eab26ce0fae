-- The number of members below a bound, and their list.
use Rattle.std.proofs.Common.{◌≡◌, ℕ, zero, suc, ◌+◌, ◌-◌, ◌/◌, ◌%◌, ◌^◌, ◌<◌, ◌≤◌, Bool, true, false, cond, eqb, ◌⊎◌, List, [], ◌∷◌, ◌++◌, length, set, replicate, filter, count_by, refl, ap, sym, ◌∙◌, subst, arith, inl, inr}
use Rattle.std.specs.List.{range_with_len}
use Rattle.std.specs.Int.{bit_at}
use Rattle.std.specs.Int.RustNames.{count_ones}
use Rattle.std.proofs.Common.{zero-add}
use lib.Count.{ones, ones_in}
use Rattle.std.proofs.lemmas.Bool.{cases_lt}
use Rattle.std.proofs.lemmas.List.{set_at, append_assoc, append-nil, length_push}
use Rattle.std.proofs.lemmas.List.Elements.{filter-append}
use Rattle.std.proofs.lemmas.List.Sums.{sum_by-append, length-filter, count_by-le-length}
use Rattle.std.proofs.lemmas.List.FromFn.{length-range_with_len}
use Rattle.regress_base.specs.ByteSets.{all_bytes, members_of, member_count}
use Rattle.std.proofs.lemmas.Nat.{ones_cat, shr_split, shr_below, pow_pos, mod_below}
use Rattle.std.proofs.lemmas.Nat.Bits.{bit_at_cat_low}

-- the numbers from a on, with one more
range_with_len-more : (a n : ℕ) → range_with_len a (suc n) ≡ range_with_len a n ++ (a + n) ∷ []
range_with_len-more a zero = ap (λ x. x ∷ []) (omega arith)
range_with_len-more a (suc n) = ap (λ xs. a ∷ xs)
    (range_with_len-more (a + 1) n ∙ ap (λ x. range_with_len (a + 1) n ++ x ∷ []) (omega arith))

upto-more : (n : ℕ) → range_with_len 0 (suc n) ≡ range_with_len 0 n ++ n ∷ []
upto-more n = range_with_len-more 0 n ∙ ap (λ x. range_with_len 0 n ++ x ∷ []) (zero-add n)

-- the number of numbers below n that pass the test
abbrev pub count_below : (ℕ → Bool) → ℕ → ℕ
count_below p n = count_by p (range_with_len 0 n)

-- the numbers below n that pass the test
abbrev pub filter_below : (ℕ → Bool) → ℕ → List ℕ
filter_below p n = filter p (range_with_len 0 n)

pub filter_below-suc : (p : ℕ → Bool) (n : ℕ) → filter_below p (suc n) ≡ filter_below p n ++ cond (p n) (n ∷ []) []
filter_below-suc p n = ap (filter p) (upto-more n) ∙ filter-append p (range_with_len 0 n) (n ∷ [])

pub count_below-suc : (p : ℕ → Bool) (n : ℕ) → count_below p (suc n) ≡ count_below p n + cond (p n) 1 0
count_below-suc p n =
    ap (count_by p) (upto-more n) ∙ sum_by-append (λ x. cond (p x) 1 0) (range_with_len 0 n) (n ∷ [])
    ∙ ap (λ c. count_below p n + c) (zero-add (cond (p n) 1 0))

-- tests that agree below n have the same count there
pub count_below-agree : (p q : ℕ → Bool) (n : ℕ) → ((k : ℕ) → k < n → p k ≡ q k) → count_below p n ≡ count_below q n
count_below-agree p q zero h = refl
count_below-agree p q (suc n) h =
    count_below-suc p n ∙ ap (λ c. c + cond (p n) 1 0) (count_below-agree p q n (λ k l. h k (omega arith)))
    ∙ ap (λ t. count_below q n + cond t 1 0) (h n (omega arith)) ∙ sym (count_below-suc q n)

-- the count below m + n is the count below m plus the count from m on
pub count_below-add : (p : ℕ → Bool) (m n : ℕ) → count_below p (m + n) ≡ count_below p m + count_below (λ k. p (m + k)) n
count_below-add p m zero =
    let e : m + zero ≡ m = omega arith in
    let f = ap (count_below p) e in
    omega arith
count_below-add p m (suc n) =
    let e : m + suc n ≡ suc (m + n) = omega arith in
    let f = ap (count_below p) e in
    let g = count_below-suc p (m + n) in
    let h = count_below-add p m n in
    let i = count_below-suc (λ k. p (m + k)) n in
    omega arith

pub count_below-le : (p : ℕ → Bool) (m n : ℕ) → m ≤ n → count_below p m ≤ count_below p n
count_below-le p m n h =
    let e : m + (n - m) ≡ n = omega arith in
    let f = ap (count_below p) e in
    let g = count_below-add p m (n - m) in
    omega arith

-- a number that passes increases the count
pub count_below-lt : (p : ℕ → Bool) (m n : ℕ) → m < n → p m ≡ true → count_below p m < count_below p n
count_below-lt p m n h passes =
    let f = count_below-le p (suc m) n h in
    let g = count_below-suc p m in
    let i : cond {A = ℕ} (p m) 1 0 ≡ 1 = ap (λ t. cond {A = ℕ} t 1 0) passes in
    omega arith

-- ---- the bits of one cell

small_ones : (a : ℕ) → a < 2 → count_ones a ≡ a
unfolding ones ones_in
small_ones a h =
    elim (cases_lt a 1) [
      | inl l ↦ let e : a ≡ 0 = omega arith in rw e refl
      | inr l ↦ let e : a ≡ 1 = omega arith in rw e refl
    ]

top_bit : (a : ℕ) → a < 2 → cond (eqb (a % 2) 1) 1 0 ≡ a
top_bit a h =
    elim (cases_lt a 1) [
      | inl l ↦ let e : a ≡ 0 = omega arith in rw e refl
      | inr l ↦ let e : a ≡ 1 = omega arith in rw e refl
    ]

pub count_ones-bits : (k n : ℕ) → n < 2 ^ k → count_ones n ≡ count_below (λ i. eqb (bit_at n i) 1) k
count_ones-bits zero n h =
    let e : n ≡ 0 = omega arith in
    ap count_ones e ∙ small_ones 0 (omega arith)
count_ones-bits (suc k) n h =
    let a = n / 2 ^ k in
    let r = n % 2 ^ k in
    let low = mod_below n (2 ^ k) (pow_pos k) in
    let wide : suc k ≡ 1 + k = omega arith in
    let high : a < 2 = shr_below n 1 k (subst (λ x. n < 2 ^ x) wide h) in
    let cut = shr_split n k in
    let parts : count_ones n ≡ count_ones a + count_ones r = ap count_ones (sym cut) ∙ ones_cat k a r low in
    let top = small_ones a high in
    let rest = count_ones-bits k r low in
    let same = count_below-agree (λ i. eqb (bit_at r i) 1) (λ i. eqb (bit_at n i) 1) k
    (λ i l. ap (λ x. eqb x 1) (sym (bit_at_cat_low a k r i l) ∙ ap (λ x. bit_at x i) cut)) in
    let more = count_below-suc (λ i. eqb (bit_at n i) 1) k in
    let last = top_bit a high in
    omega arith

-- ---- an array that is filled from the start

pub write_next : (xs : List ℕ) (n v : ℕ) → length xs < n
    → set (xs ++ replicate (n - length xs) 0) (length xs) v ≡ (xs ++ v ∷ []) ++ replicate (n - (length xs + 1)) 0
write_next xs n v h =
    let m = n - (length xs + 1) in
    let e : n - length xs ≡ suc m = omega arith in
    ap (λ k. set (xs ++ replicate k 0) (length xs) v) e ∙ set_at xs 0 (replicate m 0) v (length xs) refl
    ∙ sym (append_assoc xs (v ∷ []) (replicate m 0))

-- the array of length n begins with the `len` numbers below b that pass the test, and the rest of it is zeros
pub record IsFilled (p : ℕ → Bool) (n b len : ℕ) (array : List ℕ) : Type 0 where
  pub filled : array ≡ filter_below p b ++ replicate (n - len) 0
  pub counted : len ≡ length (filter_below p b)

pub IsFilled-none : (p : ℕ → Bool) (n : ℕ) → IsFilled p n 0 0 (replicate n 0)
IsFilled-none p n =
    let e : n ≡ n - 0 = omega arith in
    record { filled = ap (λ k. replicate {A = ℕ} k 0) e; counted = refl }

IsFilled-yes : (p : ℕ → Bool) (n b len : ℕ) (array : List ℕ) → IsFilled p n b len array → p b ≡ true → len < n
    → IsFilled p n (b + 1) (len + 1) (set array len b)
IsFilled-yes p n b len array so_far passes room =
    let front = filter_below p b in
    let e : b + 1 ≡ suc b = omega arith in
    let grown : filter_below p (b + 1) ≡ front ++ b ∷ [] = ap (filter_below p) e ∙ filter_below-suc p b
    ∙ ap (λ t. front ++ cond t (b ∷ []) []) passes in
    let at : len ≡ length front = so_far.counted in
    let fits : length front < n = omega arith in
    record {
      filled =
          ap (λ xs. set xs len b) so_far.filled
          ∙ ap (λ k. set (front ++ replicate (n - k) 0) k b) at
          ∙ write_next front n b fits
          ∙ ap (λ k. (front ++ b ∷ []) ++ replicate (n - (k + 1)) 0) (sym at)
          ∙ ap (λ xs. xs ++ replicate (n - (len + 1)) 0) (sym grown);
      counted = ap (λ k. k + 1) at ∙ sym (length_push front b) ∙ ap length (sym grown);
    }

IsFilled-no : (p : ℕ → Bool) (n b len : ℕ) (array : List ℕ) → IsFilled p n b len array → p b ≡ false → IsFilled p n (b + 1) len array
IsFilled-no p n b len array so_far fails =
    let front = filter_below p b in
    let e : b + 1 ≡ suc b = omega arith in
    let same : filter_below p (b + 1) ≡ front = ap (filter_below p) e ∙ filter_below-suc p b ∙ ap (λ t. front ++ cond t (b ∷ []) []) fails
    ∙ append-nil front in
    record {
      filled = so_far.filled ∙ ap (λ xs. xs ++ replicate (n - len) 0) (sym same);
      counted = so_far.counted ∙ ap length (sym same);
    }

-- ---- all bytes

pub member_count-is : (p : ℕ → Bool) → count_below p 256 ≡ member_count p
unfolding all_bytes
member_count-is p = refl

pub members_of-is : (p : ℕ → Bool) → filter_below p 256 ≡ members_of p
unfolding all_bytes
members_of-is p = refl

-- the array has capacity for one more member
pub IsFilled-room : (p : ℕ → Bool) (n b len : ℕ) (array : List ℕ) → IsFilled p n b len array → p b ≡ true → b < 256 → member_count p ≤ n
    → len < n
IsFilled-room p n b len array so_far passes byte room =
    let at = so_far.counted ∙ length-filter p (range_with_len 0 b) in
    let more = count_below-lt p b 256 byte passes in
    let all = member_count-is p in
    omega arith

-- one more number is tested, and added to the array if it is a member
pub IsFilled-iteration : (p : ℕ → Bool) (n b len len' : ℕ) (array array' : List ℕ) → b < 256 → member_count p ≤ n → IsFilled p n b len array
    → ((p b ≡ true) × (len' ≡ len + 1) × (array' ≡ set array len b)) ⊎ ((p b ≡ false) × (len' ≡ len) × (array' ≡ array))
    → IsFilled p n (b + 1) len' array'
IsFilled-iteration p n b len len' array array' byte fits so_far (inl joins) =
    rw (joins.1, joins.2) (IsFilled-yes p n b len array so_far joins.0 (IsFilled-room p n b len array so_far joins.0 byte fits))
IsFilled-iteration p n b len len' array array' byte fits so_far (inr stays) =
    rw (stays.1, stays.2) (IsFilled-no p n b len array so_far stays.0)

pub IsFilled-all : (p : ℕ → Bool) (n len : ℕ) (array : List ℕ) → IsFilled p n 256 len array
    → array ≡ members_of p ++ replicate (n - member_count p) 0
IsFilled-all p n len array so_far =
    let at : len ≡ member_count p = so_far.counted ∙ length-filter p (range_with_len 0 256) ∙ member_count-is p in
    so_far.filled ∙ ap (λ xs. xs ++ replicate (n - len) 0) (members_of-is p) ∙ ap (λ k. members_of p ++ replicate (n - k) 0) at

pub count_below-bound : (p : ℕ → Bool) (n : ℕ) → count_below p n ≤ n
count_below-bound p n =
    let l = count_by-le-length p (range_with_len 0 n) in
    let m = length-range_with_len 0 n in
    omega arith
