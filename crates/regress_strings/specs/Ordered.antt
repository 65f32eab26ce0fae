-- An order of strings, by its places.
use Rattle.std.specs.Prelude.{◌≡◌, ℕ, true, false, nat_eq, ◌+◌, ◌-◌, ◌<◌, ◌≤◌, List, length, slice_index}
use Rattle.std.specs.List.{starts_with}
use Rattle.regress_strings.specs.declared.order.Order.{Order}
use Rattle.regress_strings.specs.Contents.{contents}
use Rattle.regress_strings.specs.Order.{is_after, string_at}

-- the number of places
abbrev pub place_count : Order → ℕ
place_count order = length order.indices.items

-- the string at each place
abbrev pub string_of : Order → (place : ℕ) → List ℕ
string_of order = string_at (contents order.strings.items) order.indices.items

-- None of the strings at the places below `count` comes after the text.
abbrev pub NoneAfter : (string : ℕ → List ℕ) (text : List ℕ) (count : ℕ) → Type 0
NoneAfter string text count = (i : ℕ) → i < count → is_after (string i) text ≡ false

-- At the places below `count` no string comes after the text, and at the others each does.
pub record IsCountAtMost (order : Order) (text : List ℕ) (count : ℕ) : Type 0 where
  pub within : count ≤ place_count order
  pub none : NoneAfter (string_of order) text count
  pub all : (i : ℕ) → count ≤ i → i < place_count order → is_after (string_of order i) text ≡ true

-- The result is one more than the last place below `count` of a string that the text begins with, or 0 if there is none.
pub record IsPrefixCount (string : ℕ → List ℕ) (text : List ℕ) (count result : ℕ) : Type 0 where
  pub within : result ≤ count
  pub begins : 0 < result → starts_with nat_eq text (string (result - 1)) ≡ true
  pub last : (i : ℕ) → result ≤ i → i < count → starts_with nat_eq text (string i) ≡ false

-- The result is one more than the greatest index below `before` at the places from `first` on and below `count`, or 0 if there is none.
pub record IsLastBelow (order : Order) (first count before result : ℕ) : Type 0 where
  pub found : 0 < result → (i : ℕ) × (first ≤ i) × (i < count) × (slice_index order.indices.items i < before) × (slice_index order.indices.items i + 1 ≡ result)
  pub greatest : (i : ℕ) → first ≤ i → i < count → slice_index order.indices.items i < before → slice_index order.indices.items i < result

-- The result is one more than the greatest index below `before` of a string that the text begins with, or 0 if there is none.
pub record IsGreatest (order : Order) (text : List ℕ) (before result : ℕ) : Type 0 where
  pub found : 0 < result → (i : ℕ) × (i < place_count order) × (starts_with nat_eq text (string_of order i) ≡ true) × (slice_index order.indices.items i < before)
      × (slice_index order.indices.items i + 1 ≡ result)
  pub greatest : (i : ℕ) → i < place_count order → starts_with nat_eq text (string_of order i) ≡ true → slice_index order.indices.items i < before
      → slice_index order.indices.items i < result
