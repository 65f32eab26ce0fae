-- Lemmas on an order of strings.
use Rattle.std.proofs.Common.{◌≡◌, ℕ, ◌+◌, ◌-◌, ◌<◌, ◌≤◌, true, false, List, length, get_or, inl, inr, ltb, ap, subst, ◌∙◌, arith}
use Rattle.std.specs.List.{slice_index, slice_range}
use Rattle.std.proofs.lemmas.Bool.{both_ways, true_from_ne_false, ltb-true, ltb-false, cases_lt}
use Rattle.std.specs.List.Sorted.{IsPartitionPoint, IsPartitionedBy}
use Rattle.std.proofs.lemmas.List.Edits.{get_or-between, length-between}
use Rattle.std.proofs.lemmas.List.Sorted.{IsNonDecreasingBy-from_default, IsPartitionedBy-ltb}
use Rattle.regress_strings.specs.declared.order.Order.{Order}
use Rattle.regress_strings.specs.Order.{is_after}
use Rattle.regress_strings.specs.Ordered.{IsLastBelow, place_count, string_of}
use Rattle.regress_strings.proofs.PrefixLemmas.{not_after-not_after}

-- ---- a binary search for a text

-- the strings before one that does not come after the text do not either
pub none-below : (order : Order) (text : List ℕ) (i j : ℕ) → i ≤ j → j < place_count order → is_after (string_of order j) text ≡ false
    → is_after (string_of order i) text ≡ false
none-below order text i j le lt none = not_after-not_after (string_of order i) (string_of order j) text (order.is_order.ascend i j le lt) none

-- the strings from one that comes after the text on do, too
pub all-above : (order : Order) (text : List ℕ) (i j : ℕ) → i ≤ j → j < place_count order → is_after (string_of order i) text ≡ true
    → is_after (string_of order j) text ≡ true
all-above order text i j le lt all =
    true_from_ne_false (is_after (string_of order j) text) (λ none. both_ways (is_after (string_of order i) text) (none-below order text i j le lt none) all)

-- ---- a binary search for an index, among those from `first` on and below `count`

-- the indices that ascend are parted at `before`
pub parted-at : (indices : List ℕ) (first count before : ℕ) → count ≤ length indices
    → ((i j : ℕ) → first ≤ i → i ≤ j → j < count → slice_index indices i ≤ slice_index indices j)
    → IsPartitionedBy (λ index. ltb index before) (slice_range indices first count)
parted-at indices first count before within ascend =
    IsPartitionedBy-ltb (λ index. index) (slice_range indices first count) before
    (IsNonDecreasingBy-from_default (λ index. index) (slice_range indices first count) 0 (λ i j le lt. (
    let len = length-between indices first count within in
    rw (get_or-between indices first count i 0 (omega (arith, len)), get_or-between indices first count j 0 (omega (arith, len)))
    (ascend (first + i) (first + j) (omega arith) (omega arith) (omega (arith, len))))))

-- the indices from the point on are not below `before`
not-below : (indices : List ℕ) (first count before below i : ℕ) → count ≤ length indices
    → IsPartitionPoint (λ index. ltb index before ≡ true) (λ index. ltb index before ≡ false) (slice_range indices first count) below
    → first + below ≤ i → i < count → before ≤ slice_index indices i
not-below indices first count before below i within point ge lt =
    let len = length-between indices first count within in
    let is : get_or (slice_range indices first count) (i - first) 0 ≡ slice_index indices i =
    get_or-between indices first count (i - first) 0 (omega arith) ∙ ap (λ n. get_or indices n 0) (omega arith) in
    subst (λ n. before ≤ n) is (ltb-false _ before (point.1 (i - first) 0 (omega arith) (omega (arith, len))))

pub last-none : (order : Order) (first count before below : ℕ) → count ≤ place_count order
    → IsPartitionPoint (λ index. ltb index before ≡ true) (λ index. ltb index before ≡ false) (slice_range order.indices.items first count) below
    → below ≡ 0 → IsLastBelow order first count before 0
last-none order first count before below within point none = record {
  found = λ some. absurd (omega arith);
  greatest = λ i ge lt less. absurd (let high = not-below order.indices.items first count before below i within point (omega arith) lt in omega arith);
}

pub last-some : (order : Order) (first count before below : ℕ) → count ≤ place_count order
    → ((i j : ℕ) → first ≤ i → i ≤ j → j < count → slice_index order.indices.items i ≤ slice_index order.indices.items j)
    → IsPartitionPoint (λ index. ltb index before ≡ true) (λ index. ltb index before ≡ false) (slice_range order.indices.items first count) below
    → below ≤ length (slice_range order.indices.items first count) → 0 < below
    → IsLastBelow order first count before (get_or (slice_range order.indices.items first count) (below - 1) 0 + 1)
last-some order first count before below within ascend point bound some =
    let indices = order.indices.items in
    let len = length-between indices first count within in
    let last : ℕ = first + (below - 1) in
    let is : get_or (slice_range indices first count) (below - 1) 0 ≡ slice_index indices last = get_or-between indices first count (below - 1) 0 (omega (arith, len)) in
    let less : slice_index indices last < before = subst (λ n. n < before) is (ltb-true _ before (point.0 (below - 1) 0 (omega arith) (omega arith))) in
    record {
      found = λ _. (last, omega arith, omega (arith, len), less, omega (arith, is));
      greatest = λ i ge lt under. elim (cases_lt last i) [
        | inl past ↦ absurd (let high = not-below indices first count before below i within point (omega arith) lt in omega arith)
        | inr upto ↦ (let at = ascend i last ge upto (omega (arith, len)) in omega (arith, at, is))
      ];
    }
