-- The list of the code points that pass a test, and the code points that a literal matches as such a list.
use Rattle.std.proofs.Common.{◌≡◌, ◌≢◌, ℕ, ◌+◌, ◌≤◌, ◌==◌, Bool, true, false, ◌&&◌, nat_le, nat_lt, IsTrue, List, [], ◌∷◌, inl, inr, refl, sym, ap, subst, ◌∙◌, arith, append-nil, length, All}
use Rattle.std.proofs.lemmas.Bool.{eq-eqb, false≢true, and_from, le-leb, leb-true, and_parts}
use Rattle.std.proofs.lemmas.Bool.Decides.{nat_tests}
use Rattle.std.proofs.Math.Utf8.{scalar_cases}
use Rattle.std.specs.Char.{IsScalar}
use Rattle.std.specs.List.{range_with_len}
use Rattle.regress_base.specs.Intervals.{code_point_max}
use Rattle.regress_base.specs.Listing.{lists, is_ascending_from, is_ascending, IsListing, listed_below, listed}
use Rattle.regress_base.specs.Table.{Table, IsValidTable, canonicalize, denotes, class_of}
use Rattle.regress_base.proofs.lemmas.Listings.{All-from_lists, few_of_canonical_form, ascending_parts, ascending_again, ascending_above, ascending_append, ascending_filter, lists-head, lists-tail, lists-past, lists-filter, lists-run}

-- tests that imply each other are equal
pub same_tests : (a b : Bool) → (a ≡ true → b ≡ true) → (b ≡ true → a ≡ true) → a ≡ b
same_tests true b to from = sym (to refl)
same_tests false true to from = from refl
same_tests false false to from = refl

-- ---- listings

-- lists with the same first number and the same members have the same members after it
same_after : (x : ℕ) (xs ys : List ℕ) → IsTrue (is_ascending_from (x + 1) xs) →
    ((c : ℕ) → lists (x ∷ xs) c ≡ true → lists (x ∷ ys) c ≡ true) → (c : ℕ) → lists xs c ≡ true → lists ys c ≡ true
same_after x xs ys h within c e =
    let above = ascending_above (x + 1) xs c h e in
    let other : x ≢ c = omega (arith, above) in
    lists-past x ys c other (within c (lists-tail x xs c e))

-- ascending lists with the same members are equal
ascending_same : (low low' : ℕ) (xs ys : List ℕ) → IsTrue (is_ascending_from low xs) → IsTrue (is_ascending_from low' ys) →
    ((c : ℕ) → lists xs c ≡ lists ys c) → xs ≡ ys
ascending_same low low' [] [] hx hy same = refl
ascending_same low low' [] (y ∷ ys) hx hy same = absurd (false≢true (same y ∙ lists-head y ys))
ascending_same low low' (x ∷ xs) [] hx hy same = absurd (false≢true (sym (same x) ∙ lists-head x xs))
ascending_same low low' (x ∷ xs) (y ∷ ys) hx hy same =
    let px = ascending_parts low x xs hx in
    let py = ascending_parts low' y ys hy in
    let low_x = ascending_above y (y ∷ ys) x (ascending_again y ys py.rest) (sym (same x) ∙ lists-head x xs) in
    let low_y = ascending_above x (x ∷ xs) y (ascending_again x xs px.rest) (same y ∙ lists-head y ys) in
    let first : y ≡ x = omega (arith, low_x, low_y) in
    let rest : IsTrue (is_ascending_from (x + 1) ys) = subst (λ (n : ℕ). IsTrue (is_ascending_from (n + 1) ys)) first py.rest in
    let members : (c : ℕ) → lists (x ∷ xs) c ≡ lists (x ∷ ys) c =
    λ c. same c ∙ ap (λ n. lists (n ∷ ys) c) first in
    ap (λ n. n ∷ xs) (sym first)
    ∙ ap (λ l. y ∷ l)
    (ascending_same (x + 1) (x + 1) xs ys px.rest rest
    (λ c.
    same_tests _ _
    (same_after x xs ys px.rest (λ d e. sym (members d) ∙ e) c)
    (same_after x ys xs rest (λ d e. members d ∙ e) c)))

ascending_listed : (n : ℕ) (test : ℕ → Bool) → IsTrue (is_ascending (listed_below n test))
unfolding listed_below
ascending_listed n test =
    ascending_filter 0 test (range_with_len 0 n)
    (subst (λ xs. IsTrue (is_ascending xs)) (append-nil (range_with_len 0 n)) (ascending_append 0 0 n [] (omega arith) refl))

lists_listed : (n : ℕ) (test : ℕ → Bool) (c : ℕ) → lists (listed_below n test) c ≡ (nat_lt c n && test c)
unfolding listed_below
lists_listed n test c = lists-filter test (range_with_len 0 n) c ∙ rw (lists-run 0 n c) (swapped (test c))
  where
    swapped : (b : Bool) → (b && (nat_le 0 c && nat_lt c (0 + n))) ≡ (nat_lt c n && b)
    swapped true = grind (arith, nat_tests)
    swapped false = grind (arith, nat_tests)

-- `listed` is a listing of the code points that pass the test
pub IsListing-listed : (test : ℕ → Bool) → IsListing test (listed test)
IsListing-listed test = record {
  ascending = ascending_listed (code_point_max + 1) test;
  members = λ c. lists_listed (code_point_max + 1) test c ∙ ap (λ b. b && test c) (below c);
}
  where
    below : (c : ℕ) → nat_lt c (code_point_max + 1) ≡ nat_le c code_point_max
    below c = grind (arith, nat_tests)

-- there is no other listing
pub listing_is_listed : (test : ℕ → Bool) (xs : List ℕ) → IsListing test xs → xs ≡ listed test
listing_is_listed test xs listing =
    let all = IsListing-listed test in
    ascending_same 0 0 xs (listed test) listing.ascending all.ascending (λ c. listing.members c ∙ sym (all.members c))

-- ---- the code points that a literal matches

pub lists-one : (c x : ℕ) → lists (c ∷ []) x ≡ (x == c)
lists-one c x = grind (arith, nat_tests)

denotes-itself : (table : Table) (icase unicode : Bool) (c : ℕ) → denotes table icase unicode c c ≡ true
denotes-itself table true unicode c = eq-eqb (canonicalize table unicode c) _ refl
denotes-itself table false unicode c = eq-eqb c c refl

-- without icase a literal matches only itself
pub class_of-itself : (table : Table) (unicode : Bool) (c : ℕ) → c ≤ code_point_max → class_of table false unicode c ≡ c ∷ []
class_of-itself table unicode c h =
    sym (listing_is_listed (λ x. x == c) (c ∷ []) (record { ascending = ascending; members = λ x. lists-one c x ∙ within x }))
  where
    ascending : IsTrue (is_ascending (c ∷ []))
    ascending = grind (arith, nat_tests)

    within : (x : ℕ) → (x == c) ≡ (nat_le x code_point_max && (x == c))
    within x = grind (arith, nat_tests)

pub scalar_in_range : (x : ℕ) → IsScalar x → x ≤ code_point_max
scalar_in_range x s = elim (scalar_cases x s) [ inl low ↦ omega arith | inr high ↦ omega arith ]

module _ (table : Table) (icase unicode : Bool) (c : ℕ) where
  -- the members of a class
  pub lists-class_of : (x : ℕ) → lists (class_of table icase unicode c) x ≡ (nat_le x code_point_max && denotes table icase unicode c x)
  lists-class_of x = (IsListing-listed (denotes table icase unicode c)).members x

  -- a code point matches itself
  pub class_of-some : c ≤ code_point_max → class_of table icase unicode c ≢ []
  class_of-some h none =
      false≢true
      (ap (λ xs. lists xs c) (sym none) ∙ lists-class_of c
      ∙ and_from _ _ (le-leb c code_point_max h) (denotes-itself table icase unicode c))

  -- the class contains exactly the Unicode scalar values that the literal matches
  pub lists-class_of-scalar : (x : ℕ) → IsScalar x → lists (class_of table icase unicode c) x ≡ denotes table icase unicode c x
  lists-class_of-scalar x s =
      lists-class_of x ∙ ap (λ b. b && denotes table icase unicode c x) (le-leb x code_point_max (scalar_in_range x s))

  -- every member of a class is a code point
  pub class_of-bounded : All (λ x. x ≤ code_point_max) (class_of table icase unicode c)
  class_of-bounded =
      All-from_lists (λ x. x ≤ code_point_max) (class_of table icase unicode c)
      (λ x listed. leb-true x code_point_max (and_parts _ _ (sym (lists-class_of x) ∙ listed)).0)

-- if the table satisfies its invariants, a class has at most four members
pub class_of-few : (table : Table) (icase unicode : Bool) (c : ℕ) → IsValidTable table → c ≤ code_point_max →
    length (class_of table icase unicode c) ≤ 4
class_of-few table true true c lawful h =
    few_of_canonical_form table.fold (table.fold c) (class_of table true true c) lawful.fold.small_classes
    (IsListing-listed (denotes table true true c))
class_of-few table true false c lawful h =
    few_of_canonical_form table.uppercase (table.uppercase c) (class_of table true false c) lawful.uppercase.small_classes
    (IsListing-listed (denotes table true false c))
class_of-few table false unicode c lawful h =
    let one = ap length (class_of-itself table unicode c h) in omega (arith, one)
