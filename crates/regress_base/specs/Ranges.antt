-- The range of the elements that compare as `Equal`.
use Rattle.std.specs.Prelude.{ℕ, ◌<◌, ◌≤◌, ◌≡◌, List, length}
use Rattle.std.specs.declared.cmp.Ordering.{Ordering}
use Rattle.std.specs.declared.cmp.Ordering.TheVariants.{Less, Equal, Greater}
use Rattle.std.specs.List.{AllWithin}
use Rattle.std.specs.List.Sorted.{IsNonDecreasingBy}
use Rattle.std.specs.Ordering.{ordering_index}

-- The elements before `start` compare as `Less`, those from `start` to `end` as `Equal`, and those from `end` on as
-- `Greater`. There is at most one such range. If it is empty, its bounds are the index at which an equal element would
-- be inserted.
pub record IsEqualRange {X : Type 0} (ord : X → Ordering) (xs : List X) (start end : ℕ) : Type 0 where
  pub in_order : start ≤ end
  pub in_bounds : end ≤ length xs
  pub less : AllWithin (λ x. ord x ≡ Less) xs 0 start
  pub equal : AllWithin (λ x. ord x ≡ Equal) xs start end
  pub greater : AllWithin (λ x. ord x ≡ Greater) xs end (length xs)

-- If the results do not decrease, and those before `low` are below `least`, then exactly the results before `position` are
-- below `least`.
abbrev pub SplitsAt : {X : Type 0} → (X → Ordering) → List X → Ordering → ℕ → ℕ → Type 0
SplitsAt ord xs least low position =
    IsNonDecreasingBy (λ x. ordering_index (ord x)) xs
    → AllWithin (λ x. ordering_index (ord x) < ordering_index least) xs 0 low
    → AllWithin (λ x. ordering_index (ord x) < ordering_index least) xs 0 position
    × AllWithin (λ x. ordering_index least ≤ ordering_index (ord x)) xs position (length xs)
