-- Properties of bits in cells of a fixed width, which both bitmaps use.
use Rattle.std.proofs.Common.{◌≡◌, ◌≢◌, ℕ, ◌+◌, ◌*◌, ◌/◌, ◌%◌, ◌^◌, ◌<◌, Bool, true, false, not, ◌&&◌, ◌||◌, eqb, ltb, leb, List, length, get_or, set, replicate, min, max, bit_and, bit_or, ◌≤◌, ◌-◌, refl, ap, sym, ◌∙◌, arith, get_or-set_other, get_or-set_same, inl, inr}
use Rattle.std.specs.Int.{bit_at, Width}
use Rattle.std.proofs.lemmas.Bool.{cases_eq, cases_lt, eq-eqb, ne_eqb, lt-ltb, le-ltb, le-leb, lt-leb}
use Rattle.std.proofs.lemmas.Bool.Decides.{nat_tests}
use Rattle.std.proofs.lemmas.Nat.{one_shl, pow_pos, div-add-mod'}
use Rattle.std.proofs.lemmas.Nat.Bits.{and_pow, bit_at-lt, bit_at_set_same, bit_at_set_other, bit_at_and, bit_at_or, bit_at_not, bit_at-zero, ones_shl, ones_shr, bit_at_mask_below, bit_at_mask_inside, bit_at_ones, bit_at_ones_above}
use Rattle.std.proofs.lemmas.List.{get_or-replicate, get_or_past, length-replicate}
use mir.Val.{bits}
use Rattle.regress_base.specs.ByteSets.{bit_in}
use Rattle.std.proofs.Math.Bool.{or-false}

of_zero : (p : ℕ) → not (eqb (0 * p) 0) ≡ eqb 0 1
of_zero p =
    let e : 0 * p ≡ 0 = omega arith in
    rw e refl

of_one : (p : ℕ) → 0 < p → not (eqb (1 * p) 0) ≡ eqb 1 1
of_one p g =
    let e : 1 * p ≡ p = omega arith in
    rw e (grind (arith, nat_tests))

of_bit : (x p : ℕ) → x < 2 → 0 < p → not (eqb (x * p) 0) ≡ eqb x 1
of_bit x p h g =
    elim (cases_lt x 1) [
      | inl a ↦ let e : x ≡ 0 = omega arith in rw e (of_zero p)
      | inr a ↦ let e : x ≡ 1 = omega arith in rw e (of_one p g)
    ]

-- the test of one bit in the code
pub tested : (w : Width) (n k : ℕ) → k < bits w → not (eqb (bit_and n (1 * 2 ^ k % 2 ^ bits w)) 0) ≡ eqb (bit_at n k) 1
tested w n k h =
    rw (one_shl k (bits w) h, and_pow n k) (of_bit (bit_at n k) (2 ^ k) (bit_at-lt n k) (pow_pos k))

-- two numbers with the same cell and the same bit are equal
same_bit_index : (n a b : ℕ) → a / n ≡ b / n → a % n ≡ b % n → a ≡ b
same_bit_index n a b d m = sym (div-add-mod' a n) ∙ ap (λ q. q * n + a % n) d ∙ ap (λ r. b / n * n + r) m ∙ div-add-mod' b n

-- the cells after bit v is set
abbrev pub with_bit : (w : Width) → List ℕ → ℕ → List ℕ
with_bit w cells v = set cells (v / bits w) (bit_or (get_or cells (v / bits w) 0) (1 * 2 ^ (v % bits w) % 2 ^ bits w))

set_same : (w : Width) (cells : List ℕ) (v : ℕ) → v % bits w < bits w → v / bits w < length cells
    → bit_in (bits w) (with_bit w cells v) v ≡ true
unfolding bit_in
set_same w cells v low inside =
    rw (
      get_or-set_same cells (v / bits w) (bit_or (get_or cells (v / bits w) 0) (1 * 2 ^ (v % bits w) % 2 ^ bits w)) 0 inside,
      bit_at_set_same w (get_or cells (v / bits w) 0) (v % bits w) low,
    ) refl

set_other : (w : Width) (cells : List ℕ) (v b : ℕ) → v % bits w < bits w → v / bits w < length cells → b ≢ v
    → bit_in (bits w) (with_bit w cells v) b ≡ bit_in (bits w) cells b
unfolding bit_in
set_other w cells v b low inside ne =
    elim (cases_eq (b / bits w) (v / bits w)) [
      | inl e ↦
          let apart : b % bits w ≢ v % bits w = λ m. ne (same_bit_index (bits w) b v e m) in
          rw (
            e,
            get_or-set_same cells (v / bits w) (bit_or (get_or cells (v / bits w) 0) (1 * 2 ^ (v % bits w) % 2 ^ bits w)) 0 inside,
            bit_at_set_other w (get_or cells (v / bits w) 0) (v % bits w) low (b % bits w) apart,
          ) refl
      | inr e ↦
          rw (get_or-set_other cells (v / bits w) (b / bits w) (bit_or (get_or cells (v / bits w) 0) (1 * 2 ^ (v % bits w) % 2 ^ bits w))
          0 e) refl
    ]

-- the bits after bit v is set
pub bit_in-with_bit : (w : Width) (cells : List ℕ) (v b : ℕ) → v % bits w < bits w → v / bits w < length cells
    → bit_in (bits w) (with_bit w cells v) b ≡ (eqb b v || bit_in (bits w) cells b)
bit_in-with_bit w cells v b low inside =
    elim (cases_eq b v) [
      | inl e ↦ rw (e, eq-eqb v v refl) (set_same w cells v low inside)
      | inr ne ↦ rw (ne_eqb b v ne) (set_other w cells v b low inside ne)
    ]

-- a set of numbers below n after v is added
pub or-guarded : (n v b : ℕ) (x : Bool) → v < n → (ltb b n && (eqb b v || x)) ≡ (eqb b v || (ltb b n && x))
or-guarded n v b x h =
    elim (cases_eq b v) [
      | inl e ↦ rw (e, eq-eqb v v refl, lt-ltb v n h) refl
      | inr ne ↦ rw (ne_eqb b v ne) refl
    ]

-- ---- cells that a loop changes in order

-- the first i cells are changed, and the others are unchanged
pub record CellsUpTo (i : ℕ) (change : ℕ → ℕ) (old new : List ℕ) : Type 0 where
  pub changed : (k : ℕ) → k < i → get_or new k 0 ≡ change k
  pub others : (k : ℕ) → i ≤ k → get_or new k 0 ≡ get_or old k 0

-- ---- a bit after `|` and after `!`

either_bit : (x y : ℕ) → x < 2 → y < 2 → eqb (max x y) 1 ≡ (eqb x 1 || eqb y 1)
either_bit x y p q =
    elim (cases_lt x 1) [
      | inl a ↦ let e : x ≡ 0 = omega arith in let m : max x y ≡ y = omega arith in rw m (rw e refl)
      | inr a ↦ let e : x ≡ 1 = omega arith in let m : max x y ≡ 1 = omega arith in rw (m, e) refl
    ]

-- the cells after the bits of a mask are set in cell i
pub bit_in-with_mask : (n : ℕ) (cells : List ℕ) (i mask b : ℕ) → i < length cells
    → bit_in n (set cells i (bit_or (get_or cells i 0) mask)) b ≡ (bit_in n cells b || (eqb (b / n) i && eqb (bit_at mask (b % n)) 1))
unfolding bit_in
bit_in-with_mask n cells i mask b inside =
    let x = get_or cells i 0 in
    elim (cases_eq (b / n) i) [
      | inl e ↦
          rw (e, get_or-set_same cells i (bit_or x mask) 0 inside, bit_at_or x mask (b % n), eq-eqb i i refl)
          (either_bit (bit_at x (b % n)) (bit_at mask (b % n)) (bit_at-lt x (b % n)) (bit_at-lt mask (b % n)))
      | inr ne ↦
          rw (ne_eqb (b / n) i ne, get_or-set_other cells i (b / n) (bit_or x mask) 0 ne) (sym (or-false _))
    ]

-- the bits of a run of ones
pub ones_between : (low high k : ℕ) → low < 16 → high < 16 → k < 16
    → eqb (bit_at (bit_and (65535 * 2 ^ low % 65536) (65535 / 2 ^ (15 - high))) k) 1 ≡ (leb low k && leb k high)
ones_between low high k l h within =
    let a = 2 ^ 16 - 2 ^ low in
    let c = 2 ^ (16 - (15 - high)) - 1 in
    let cut : 16 - (15 - high) ≡ high + 1 = omega arith in
    let and = bit_at_and a c k in
    rw (ones_shl 16 low (omega arith), ones_shr 16 (15 - high) (omega arith), and)
    (elim (cases_lt k low) [
      | inl under ↦
          let none : min 0 (bit_at c k) ≡ 0 = omega arith in
          rw (bit_at_mask_below low 16 k under, none, lt-leb low k under) refl
      | inr from ↦ elim (cases_lt high k) [
        | inl over ↦
            rw (
              bit_at_mask_inside low 16 k from within,
              bit_at_ones_above (16 - (15 - high)) k (omega arith),
              le-leb low k from,
              lt-leb k high over,
            )
            refl
        | inr to ↦
            rw (
              bit_at_mask_inside low 16 k from within,
              bit_at_ones (16 - (15 - high)) k (omega arith),
              le-leb low k from,
              le-leb k high to,
            )
            refl
      ]
    ])

other_bit : (x : ℕ) → x < 2 → eqb (1 - x) 1 ≡ not (eqb x 1)
other_bit x p =
    elim (cases_lt x 1) [
      | inl a ↦ let e : x ≡ 0 = omega arith in rw e refl
      | inr a ↦ let e : x ≡ 1 = omega arith in rw e refl
    ]

pub bit_in-or : (n : ℕ) (xs ys zs : List ℕ) (b : ℕ) → get_or zs (b / n) 0 ≡ bit_or (get_or xs (b / n) 0) (get_or ys (b / n) 0)
    → bit_in n zs b ≡ (bit_in n xs b || bit_in n ys b)
unfolding bit_in
bit_in-or n xs ys zs b e =
    let x = get_or xs (b / n) 0 in
    let y = get_or ys (b / n) 0 in
    rw (e, bit_at_or x y (b % n)) (either_bit (bit_at x (b % n)) (bit_at y (b % n)) (bit_at-lt x (b % n)) (bit_at-lt y (b % n)))

pub bit_in-not : (w : Width) (xs zs : List ℕ) (b : ℕ) → b % bits w < bits w → get_or xs (b / bits w) 0 < 2 ^ bits w
    → get_or zs (b / bits w) 0 ≡ 2 ^ bits w - 1 - get_or xs (b / bits w) 0 → bit_in (bits w) zs b ≡ not (bit_in (bits w) xs b)
unfolding bit_in
bit_in-not w xs zs b low fits e =
    let x = get_or xs (b / bits w) 0 in
    rw (e, bit_at_not w x (b % bits w) fits low) (other_bit (bit_at x (b % bits w)) (bit_at-lt x (b % bits w)))

zero_cell : (m i : ℕ) → get_or {A = ℕ} (replicate m 0) i 0 ≡ 0
zero_cell m i =
    elim (cases_lt i m) [
      | inl h ↦ get_or-replicate {A = ℕ} m i 0 0 h
      | inr h ↦ get_or_past {X = ℕ} (replicate m 0) i 0 (rw (length-replicate {A = ℕ} m 0) h)
    ]

pub bit_in-zeros : (n m b : ℕ) → bit_in n (replicate m 0) b ≡ false
unfolding bit_in
bit_in-zeros n m b = rw (zero_cell m (b / n), bit_at-zero (b % n)) refl

-- ---- sets of numbers below n

pub or-below : (n b : ℕ) (x y z : Bool) → (b < n → x ≡ (y || z)) → (ltb b n && x) ≡ ((ltb b n && y) || (ltb b n && z))
or-below n b x y z h =
    elim (cases_lt b n) [
      | inl p ↦ rw (lt-ltb b n p) (h p)
      | inr p ↦ rw (le-ltb b n p) refl
    ]

pub not-below : (n b : ℕ) (x y : Bool) → (b < n → x ≡ not y) → (ltb b n && x) ≡ (ltb b n && not (ltb b n && y))
not-below n b x y h =
    elim (cases_lt b n) [
      | inl p ↦ rw (lt-ltb b n p) (h p)
      | inr p ↦ rw (le-ltb b n p) refl
    ]
