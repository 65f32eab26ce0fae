-- Properties of the test for membership in an interval.
use Rattle.std.proofs.Common.{◌≡◌, ℕ, ◌<◌, ◌≤◌, true, false, ◌⊎◌, ◌&&◌, ◌==◌, max, min, inl, inr, le_refl, arith, IsTrue}
use Rattle.std.proofs.lemmas.Bool.{cases_lt}
use Rattle.std.proofs.lemmas.Bool.Decides.{nat_tests}
use Rattle.regress_base.specs.Intervals.{Bounds, IsInterval, is_within}

-- an interval by its ends
abbrev pub pair : ℕ → ℕ → Bounds
pair f l = record { first = f; last = l }

-- the result of the test, with the inequalities that it decides
pub is_within_reports : (iv : Bounds) (c : ℕ)
    → ((is_within iv c ≡ true) × (iv.first ≤ c) × (c ≤ iv.last)) ⊎ ((is_within iv c ≡ false) × ((c < iv.first) ⊎ (iv.last < c)))
unfolding is_within
is_within_reports iv c = grind (arith, nat_tests)

pub le-is_within : (iv : Bounds) (c : ℕ) → iv.first ≤ c → c ≤ iv.last → is_within iv c ≡ true
le-is_within iv c above below = grind (arith, is_within_reports iv c)

pub lt-is_within : (iv : Bounds) (c : ℕ) → c < iv.first → is_within iv c ≡ false
lt-is_within iv c below = grind (arith, is_within_reports iv c)

pub gt-is_within : (iv : Bounds) (c : ℕ) → iv.last < c → is_within iv c ≡ false
gt-is_within iv c above = grind (arith, is_within_reports iv c)

pub is_within-true : (iv : Bounds) (c : ℕ) → is_within iv c ≡ true → (iv.first ≤ c) × (c ≤ iv.last)
is_within-true iv c within = grind (arith, is_within_reports iv c)

-- the higher first of two overlapping intervals is in both
pub shared_from_ends : (a b : Bounds) → IsInterval a → IsInterval b → a.first ≤ b.last → b.first ≤ a.last
    → (c : ℕ) × IsTrue (is_within a c) × IsTrue (is_within b c)
shared_from_ends a b ha hb first_in last_in =
    elim (cases_lt a.first b.first) [
      | inl later ↦ (b.first, le-is_within a b.first (omega arith) last_in, le-is_within b b.first (le_refl b.first) hb.ordered)
      | inr later ↦ (a.first, le-is_within a a.first (le_refl a.first) ha.ordered, le-is_within b a.first later first_in)
    ]

pub ends_from_shared : (a b : Bounds) → ((c : ℕ) × IsTrue (is_within a c) × IsTrue (is_within b c))
    → (a.first ≤ b.last) × (b.first ≤ a.last)
ends_from_shared a b shared =
    let in_a = is_within-true a shared.0 shared.1 in
    let in_b = is_within-true b shared.0 shared.2 in
    (omega arith, omega arith)

-- the interval of one code point
pub is_within_one : (first last c : ℕ) → first ≡ last → is_within (record { first = first; last = last }) c ≡ (c == first)
is_within_one first last c same = grind (arith, nat_tests, is_within_reports (record { first = first; last = last }) c)

-- a number is in the overlap if and only if it is in both intervals
pub is_within_overlap : (a b : Bounds) (c : ℕ)
    → is_within (record { first = max a.first b.first; last = min a.last b.last }) c ≡ (is_within a c && is_within b c)
is_within_overlap a b c =
    grind (
      arith,
      nat_tests,
      is_within_reports a c,
      is_within_reports b c,
      is_within_reports (record { first = max a.first b.first; last = min a.last b.last }) c,
    )
