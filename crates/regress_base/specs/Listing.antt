-- Lists of code points.
use Rattle.std.specs.Prelude.{◌≡◌, ℕ, ◌+◌, ◌-◌, Bool, true, ◌&&◌, nat_le, ◌==◌, IsTrue, List, [], ◌∷◌, filter}
use Rattle.std.specs.List.{list_any, range_with_len}
use Rattle.regress_base.specs.Intervals.{Bounds, code_point_max}

-- whether the number is in the list
abbrev pub lists : List ℕ → ℕ → Bool
lists xs c = list_any (λ x. x == c) xs

-- each number is at least `low`, and greater than the one before it
abbrev pub is_ascending_from : ℕ → List ℕ → Bool
is_ascending_from low [] = true
is_ascending_from low (x ∷ xs) = nat_le low x && is_ascending_from (x + 1) xs

-- each number is greater than the one before it
abbrev pub is_ascending : List ℕ → Bool
is_ascending xs = is_ascending_from 0 xs

-- The list contains exactly the code points that pass the test, ascending, each once.
pub record IsListing (test : ℕ → Bool) (xs : List ℕ) : Type 0 where
  pub ascending : IsTrue (is_ascending xs)
  pub members : (c : ℕ) → lists xs c ≡ (nat_le c code_point_max && test c)

-- the code points of an interval
abbrev pub code_points : Bounds → List ℕ
code_points iv = range_with_len iv.first (iv.last + 1 - iv.first)

-- the numbers below a bound that pass a test, ascending
unfoldable pub listed_below : ℕ → (ℕ → Bool) → List ℕ
listed_below bound test = filter test (range_with_len 0 bound)

-- the code points that pass a test, ascending
abbrev pub listed : (ℕ → Bool) → List ℕ
listed = listed_below (code_point_max + 1)
