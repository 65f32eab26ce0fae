-- Lemmas on the strings that a text begins with.
use Rattle.std.proofs.Common.{◌≡◌, ℕ, ◌+◌, ◌-◌, ◌<◌, ◌≤◌, true, false, cond, List, [], Some, get_or, drop, inl, inr, ◌⊎◌, nat_eq, refl, sym, ap, subst, ◌∙◌, arith}
use Rattle.std.specs.List.{slice_get, slice_index, starts_with}
use Rattle.std.proofs.lemmas.Bool.{both_ways, false_from_ne_true, cases_lt}
use Rattle.std.proofs.lemmas.Option.{get_or_from_slice_get, slice_get_within}
use Rattle.std.specs.Ordering.{nat_cmp, ord_max, is_lt}
use Rattle.std.proofs.lemmas.Cmp.{by_ranked, ranked}
use Rattle.regress_strings.specs.declared.order.Order.{Order}
use Rattle.regress_strings.specs.declared.link.Link.{Link}
use Rattle.regress_strings.specs.Contents.{contents}
use Rattle.regress_strings.specs.Order.{is_after}
use Rattle.regress_strings.specs.Links.{IsLink}
use Rattle.regress_strings.specs.Ordered.{IsPrefixCount, IsLastBelow, IsCountAtMost, IsGreatest, place_count, string_of}
use Rattle.regress_strings.specs.Strings.{IsLast, NoneOccurs, occurs_at}
use Rattle.regress_strings.proofs.PrefixLemmas.{prefix-before, prefix-between, prefix-prefix}

-- Of the strings at the places from `count` on that the text begins with, `last` is one more than the greatest index below `before`, or 0 if there is
-- none; and the text begins with the string before `count`.
pub record IsSearchedFrom (order : Order) (text : List ℕ) (before count last : ℕ) : Type 0 where
  pub within : count ≤ place_count order
  pub begins : 0 < count → starts_with nat_eq text (string_of order (count - 1)) ≡ true
  pub found : 0 < last → (i : ℕ) × (i < place_count order) × (starts_with nat_eq text (string_of order i) ≡ true) × (slice_index order.indices.items i < before)
      × (slice_index order.indices.items i + 1 ≡ last)
  pub greatest : (i : ℕ) → count ≤ i → i < place_count order → starts_with nat_eq text (string_of order i) ≡ true → slice_index order.indices.items i < before
      → slice_index order.indices.items i < last

-- A string that the text begins with, at a place up to that of another such string, is equal to it or a prefix of it.
pub begun-prefix : (order : Order) (text : List ℕ) (i j : ℕ) → i ≤ j → j < place_count order → starts_with nat_eq text (string_of order i) ≡ true
    → is_after (string_of order j) text ≡ false → starts_with nat_eq (string_of order j) (string_of order i) ≡ true
begun-prefix order text i j le lt begins none =
    prefix-between text (string_of order j) (string_of order i) begins (order.is_order.ascend i j le lt) none

-- ---- the last prefix

-- where the text does not begin with a string, it begins with none from the string's `prefix` on
pub none-from-prefix : (order : Order) (text : List ℕ) (place : ℕ) (link : Link) → IsLink (string_of order) place link → place < place_count order
    → is_after (string_of order place) text ≡ false → starts_with nat_eq text (string_of order place) ≡ false
    → (i : ℕ) → link.prefix ≤ i → i ≤ place → starts_with nat_eq text (string_of order i) ≡ false
none-from-prefix order text place link is lt none not i ge le =
    false_from_ne_true (starts_with nat_eq text (string_of order i)) (λ begins. elim (cases_lt i link.first) [
      | inl below ↦ both_ways (starts_with nat_eq (string_of order place) (string_of order i)) (is.last i ge below) (begun-prefix order text i place le lt begins none)
      | inr above ↦ both_ways (starts_with nat_eq text (string_of order place)) not (subst (λ s. starts_with nat_eq text s ≡ true) (is.equal i above le) begins)
    ])

-- ---- the greatest index

-- at the start, where no string from `count` on begins the text
pub searched-none : (order : Order) (text : List ℕ) (before most count : ℕ) → IsCountAtMost order text most → IsPrefixCount (string_of order) text most count
    → IsSearchedFrom order text before count 0
searched-none order text before most count at_most prefix = record {
  within = omega (arith, at_most.within, prefix.within);
  begins = prefix.begins;
  found = λ some. absurd (omega arith);
  greatest = λ i ge lt begins below. absurd (elim (cases_lt i most) [
    | inl less ↦ both_ways (starts_with nat_eq text (string_of order i)) (prefix.last i ge less) begins
    | inr more ↦ both_ways (is_after (string_of order i) text) (prefix-before text (string_of order i) begins) (at_most.all i more lt)
  ]);
}

-- the greater of two numbers
max-is : (m n r : ℕ) → r ≡ ord_max nat_cmp m n → (m ≤ r) × (n ≤ r) × ((r ≡ m) ⊎ (r ≡ n))
max-is m n r is = by_ranked (n < m) (n ≡ m) (m < n) (nat_cmp n m) (ranked n m (nat_cmp n m) refl)
    (λ o lt. (let e = is ∙ ap (λ x. cond (is_lt x) m n) o in (omega (arith, e), omega (arith, e), inl e)))
    (λ o same. (let e = is ∙ ap (λ x. cond (is_lt x) m n) o in (omega (arith, e), omega (arith, e), inr e)))
    (λ o gt. (let e = is ∙ ap (λ x. cond (is_lt x) m n) o in (omega (arith, e), omega (arith, e), inr e)))

-- an iteration
pub searched-more : (order : Order) (text : List ℕ) (before count last : ℕ) (link : Link) (here last' : ℕ) → IsSearchedFrom order text before count last
    → 0 < count → IsLink (string_of order) (count - 1) link → IsLastBelow order link.first count before here
    → last' ≡ ord_max nat_cmp last here → IsSearchedFrom order text before link.prefix last'
searched-more order text before count last link here last' so some is least greater =
    let max = max-is last here last' greater in
    let place = count - 1 in
    let begins_here = so.begins some in
    let within : place < place_count order = omega (arith, so.within) in
    record {
      within = omega (arith, is.first, is.prefix, so.within);
      begins = λ more. prefix-prefix text (string_of order place) (string_of order (link.prefix - 1)) begins_here (is.begins more);
      found = λ more. elim max.2 [
        | inl same ↦ (let old = so.found (omega arith) in (old.0, old.1, old.2, old.3, omega (arith, old.4)))
        | inr same ↦ (let new = least.found (omega arith) in
            (new.0, omega (arith, new.2, so.within), subst (λ s. starts_with nat_eq text s ≡ true) (sym (is.equal new.0 new.1 (omega (arith, new.2)))) begins_here, new.3, omega (arith, new.4)))
      ];
      greatest = λ i ge lt begins below. elim (cases_lt i count) [
        | inl less ↦ elim (cases_lt i link.first) [
          | inl under ↦ absurd (both_ways (starts_with nat_eq (string_of order place) (string_of order i)) (is.last i ge under)
              (begun-prefix order text i place (omega arith) within begins (prefix-before text (string_of order place) begins_here)))
          | inr above ↦ (let at = least.greatest i above less below in omega arith)
        ]
        | inr more ↦ (let at = so.greatest i more lt begins below in omega arith)
      ];
    }

-- ---- by the indices

-- the string at a place is the one with its index
string-at : (order : Order) (i k : ℕ) (string : List ℕ) → slice_index order.indices.items i ≡ k → slice_get (contents order.strings.items) k ≡ Some string
    → string_of order i ≡ string
string-at order i k string same is =
    ap (λ n. get_or (contents order.strings.items) n []) same ∙ get_or_from_slice_get (contents order.strings.items) k string [] is

pub none-past : (order : Order) (text : List ℕ) (position before last : ℕ) → IsGreatest order (drop position text) before last
    → NoneOccurs (contents order.strings.items) text position last before
none-past order text position before last so k string ge lt is =
    false_from_ne_true (occurs_at text position string) (λ begins.
    order.is_order.every k (slice_get_within (contents order.strings.items) k string is) (λ i within same. (
    let at = so.greatest i within (subst (λ s. occurs_at text position s ≡ true) (sym (string-at order i k string same is)) begins) (omega (arith, same)) in
    omega (arith, at, same))))

pub last-is : (order : Order) (text : List ℕ) (position before last : ℕ) → IsGreatest order (drop position text) before last → 0 < last
    → IsLast (contents order.strings.items) text position before (last - 1)
last-is order text position before last so some =
    let found = so.found some in
    let same : slice_index order.indices.items found.0 ≡ last - 1 = omega (arith, found.4) in
    let next : last ≡ last - 1 + 1 = omega arith in
    record {
      below = omega (arith, found.3, same);
      within = rw (← same) (order.is_order.within found.0 found.1);
      occurs = λ string is. subst (λ s. occurs_at text position s ≡ true) (string-at order found.0 (last - 1) string same is) found.2;
      last = subst (λ n. NoneOccurs (contents order.strings.items) text position n before) next (none-past order text position before last so);
    }
