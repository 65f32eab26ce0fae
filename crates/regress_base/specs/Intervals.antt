-- Intervals of code points, and lists of intervals as sets (ECMA-262, CharSet).
use Rattle.std.specs.Prelude.{◌≡◌, ℕ, zero, suc, ◌+◌, ◌<◌, ◌≤◌, Bool, true, false, not, ◌&&◌, ◌||◌, nat_le, ◌==◌, if◌then◌else◌, IsTrue, List, [], ◌∷◌, length, Any}
use Rattle.std.specs.List.{AllWithin}
use Rattle.std.specs.Ordering.{on, eq_of_both}

-- the greatest code point (Unicode Standard, section 3.4, code point)
abbrev pub code_point_max : ℕ
code_point_max = 0x10FFFF

-- a closed interval, given by its first and its last code point
pub record Bounds : Type 0 where
  pub first : ℕ
  pub last : ℕ

-- whether both intervals have the same ends
abbrev pub bounds_eq : Bounds → Bounds → Bool
bounds_eq = eq_of_both (on (λ iv. iv.first) ◌==◌) (on (λ iv. iv.last) ◌==◌)

-- the interval contains at least one code point, and no number above the greatest code point
pub record IsInterval (iv : Bounds) : Type 0 where
  pub ordered : iv.first ≤ iv.last
  pub in_range : iv.last ≤ code_point_max

-- whether the number is in the interval
unfoldable pub is_within : Bounds → ℕ → Bool
is_within iv c = nat_le iv.first c && nat_le c iv.last

-- whether the number is in at least one of the intervals
unfoldable pub is_member : List Bounds → ℕ → Bool
is_member [] c = false
is_member (iv ∷ ivs) c = is_within iv c || is_member ivs c

-- Every element is an interval, the first one begins at `low` or above, and each other one begins at least two above
-- the end of the one before it.
abbrev pub is_canonical_from : ℕ → List Bounds → Bool
is_canonical_from low [] = true
is_canonical_from low (iv ∷ ivs) =
    nat_le low iv.first
    && (nat_le iv.first iv.last && (nat_le iv.last code_point_max && is_canonical_from (iv.last + 2) ivs))

-- Canonical form: the intervals ascend, and between neighbors at least one code point is missing.
abbrev pub IsCanonical : List Bounds → Type 0
IsCanonical ivs = IsTrue (is_canonical_from 0 ivs)

-- canonical lists with the same members are equal
abbrev pub CanonicalFormIsUnique : Type 0
CanonicalFormIsUnique =
    (xs ys : List Bounds) → IsCanonical xs → IsCanonical ys
    → ((c : ℕ) → c ≤ code_point_max → is_member xs c ≡ is_member ys c) → xs ≡ ys

-- the code point c, put before intervals above it: the first of them is extended if it begins at c + 1, else c is an
-- interval of its own
unfoldable pub put_before : ℕ → List Bounds → List Bounds
put_before c [] = record { first = c; last = c } ∷ []
put_before c (iv ∷ ivs) =
    if iv.first == c + 1 then record { first = c; last = iv.last } ∷ ivs else record { first = c; last = c } ∷ iv ∷ ivs

-- the intervals of the numbers that pass the test, among the n numbers from `low` on
unfoldable pub intervals_from : (ℕ → Bool) → ℕ → ℕ → List Bounds
intervals_from p low zero = []
intervals_from p low (suc n) =
    if p low then put_before low (intervals_from p (low + 1) n) else intervals_from p (low + 1) n

-- the canonical list of all code points that pass the test
unfoldable pub intervals_of : (ℕ → Bool) → List Bounds
intervals_of p = intervals_from p 0 (code_point_max + 1)

-- the lists are complements of each other within the code points
abbrev pub IsComplement : List Bounds → List Bounds → Type 0
IsComplement ivs others = (c : ℕ) → c ≤ code_point_max → is_member others c ≡ not (is_member ivs c)

-- the two intervals have a code point in common, or one ends right before the other begins
pub record Touches (a b : Bounds) : Type 0 where
  pub not_before : a.first ≤ b.last + 1
  pub not_after : b.first ≤ a.last + 1

-- the interval touches at least one interval of the list
abbrev pub TouchesAny : Bounds → List Bounds → Type 0
TouchesAny iv ivs = Any (Touches iv) ivs

-- The intervals from `start` to `end` touch `iv`. Those before `start` are before `iv`, and those from `end` on are
-- after it, each with a code point between.
pub record IsTouchingRange (ivs : List Bounds) (iv : Bounds) (start end : ℕ) : Type 0 where
  pub in_order : start ≤ end
  pub in_bounds : end ≤ length ivs
  pub before : AllWithin (λ old. old.last + 1 < iv.first) ivs 0 start
  pub touching : AllWithin (Touches iv) ivs start end
  pub after : AllWithin (λ old. iv.last + 1 < old.first) ivs end (length ivs)
