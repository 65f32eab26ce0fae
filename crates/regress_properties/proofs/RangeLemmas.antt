-- Consequences of the tests of the constants: each set and each string is within its range.
use Rattle.std.proofs.Common.{◌≡◌, ℕ, ◌+◌, ◌≤◌, ◌<◌, Bool, true, ◌&&◌, nat_le, nat_lt, IsTrue, List, [], ◌∷◌, map, All, length, slice_range, take, drop, zero, suc, ◌-◌, refl, sym, ap, subst, ◌∙◌, arith}
use Rattle.std.specs.List.{list_all}
use Rattle.std.proofs.lemmas.Bool.Decides.{nat_tests}
use Rattle.std.proofs.lemmas.Bool.{and_parts}
use Rattle.std.proofs.lemmas.List.{length-drop, length-take, take-append-drop}
use Rattle.std.proofs.lemmas.List.Folds.{list_all-append, list_all-map}
use Rattle.std.proofs.lemmas.List.Sums.{AllPass-from_list_all}
use Rattle.std.proofs.lemmas.List.Elements.{All-cons, All-nil, All-head, All-tail, All-weaker}
use Rattle.regress_base.specs.Intervals.{IsCanonical, is_canonical_from, code_point_max}
use Rattle.regress_base.specs.Table.{HasCanonicalSets, HasStrings, is_string}
use Rattle.regress_properties.specs.Listed.{paired, set_at, strings_at, is_set_at, is_range_within, named_set, named_strings, AreSets, AreStringsAt}

-- ---- ranges in lists of known length

abbrev pub is_set_in : List ℕ → (count from to : ℕ) → Bool
is_set_in intervals count from to = is_range_within count from to && is_canonical_from 0 (set_at intervals from to)

pub set_is_valid_at : (intervals : List ℕ) (count from to : ℕ) → length intervals ≡ count →
    IsTrue (is_set_in intervals count from to) → IsTrue (is_set_at intervals from to)
set_is_valid_at intervals count from to is h = subst (λ (n : ℕ). IsTrue (is_set_in intervals n from to)) (sym is) h

drop_none : (b : ℕ) → drop {A = ℕ} b [] ≡ []
drop_none zero = refl
drop_none (suc b) = refl

drop_again : (xs : List ℕ) (a b : ℕ) → drop b (drop a xs) ≡ drop (a + b) xs
drop_again xs zero b = let same : b ≡ 0 + b = omega arith in ap (λ k. drop k xs) same
drop_again [] (suc a) b = drop_none b ∙ sym (drop_none (suc a + b))
drop_again (x ∷ xs) (suc a) b =
    let same : suc (a + b) ≡ suc a + b = omega arith in
    drop_again xs a b ∙ ap (λ k. drop k (x ∷ xs)) same

dropped : (xs left : List ℕ) (at to : ℕ) → at ≤ to → left ≡ drop at xs → drop (to - at) left ≡ drop to xs
dropped xs left at to le is =
    let sum : at + (to - at) ≡ to = omega (arith, le) in
    ap (drop (to - at)) is ∙ drop_again xs at (to - at) ∙ ap (λ k. drop k xs) sum

-- One traversal of the intervals tests every set: each set begins at or after the start of the one before it.
abbrev pub are_sets_from : (count at : ℕ) → List ℕ → List (ℕ × ℕ) → Bool
are_sets_from count at left [] = true
are_sets_from count at left (p ∷ positions) =
    nat_le at p.0 && (is_range_within count p.0 p.1 && (is_canonical_from 0 (paired (take (p.1 - p.0) (drop (p.0 - at) left)))
    && are_sets_from count p.0 (drop (p.0 - at) left) positions))

both : (a b : Bool) → a ≡ true → b ≡ true → (a && b) ≡ true
both a b x y = rw (x, y)

sets_step : (intervals : List ℕ) (count at : ℕ) (left : List ℕ) (p : ℕ × ℕ) (positions : List (ℕ × ℕ)) →
    length intervals ≡ count → left ≡ drop at intervals → IsTrue (are_sets_from count at left (p ∷ positions)) →
    (drop (p.0 - at) left ≡ drop p.0 intervals → IsTrue (are_sets_from count p.0 (drop (p.0 - at) left) positions) →
    All (λ p. IsTrue (is_set_at intervals p.0 p.1)) positions) → All (λ p. IsTrue (is_set_at intervals p.0 p.1)) (p ∷ positions)
sets_step intervals count at left p positions is here h others =
    let first = and_parts (nat_le at p.0) _ h in
    let second = and_parts (is_range_within count p.0 p.1) _ first.1 in
    let third = and_parts (is_canonical_from 0 (paired (take (p.1 - p.0) (drop (p.0 - at) left)))) _ second.1 in
    let up : nat_le at p.0 ≡ true = first.0 in
    let le : at ≤ p.0 = grind (arith, nat_tests, up) in
    let there : drop (p.0 - at) left ≡ drop p.0 intervals = dropped intervals left at p.0 le here in
    let set : is_set_in intervals count p.0 p.1 ≡ true = both (is_range_within count p.0 p.1) _ second.0
    (subst (λ (xs : List ℕ). is_canonical_from 0 (paired (take (p.1 - p.0) xs)) ≡ true) there third.0) in
    All-cons (λ p. IsTrue (is_set_at intervals p.0 p.1)) p positions (set_is_valid_at intervals count p.0 p.1 is set) (others there third.1)

sets_from : (intervals : List ℕ) (count at : ℕ) (left : List ℕ) (positions : List (ℕ × ℕ)) →
    length intervals ≡ count → left ≡ drop at intervals → IsTrue (are_sets_from count at left positions) →
    All (λ p. IsTrue (is_set_at intervals p.0 p.1)) positions
sets_from intervals count at left [] is here h = All-nil (λ p. IsTrue (is_set_at intervals p.0 p.1))
sets_from intervals count at left (p ∷ positions) is here h =
    sets_step intervals count at left p positions is here h (λ there rest.
    sets_from intervals count p.0 (drop (p.0 - at) left) positions is there rest)

pub sets_occur : (intervals : List ℕ) (positions : List (ℕ × ℕ)) (count : ℕ) → length intervals ≡ count →
    IsTrue (are_sets_from count 0 intervals positions) → All (λ p. IsTrue (is_set_at intervals p.0 p.1)) positions
sets_occur intervals positions count is h = sets_from intervals count 0 intervals positions is refl h

abbrev pub are_strings_in : List (ℕ × ℕ) → (of_positions of_points from to : ℕ) → Bool
are_strings_in positions of_positions of_points from to =
    is_range_within of_positions from to && list_all (λ position. is_range_within of_points position.0 position.1) (slice_range positions from to)

strings_occur_at : (positions : List (ℕ × ℕ)) (points : List ℕ) (from to : ℕ) →
    are_strings_in positions (length positions) (length points) from to ≡ true → AreStringsAt positions points from to
strings_occur_at positions points from to h =
    let all : IsTrue (list_all (λ position. is_range_within (length points) position.0 position.1) (slice_range positions from to)) = grind (arith, nat_tests, h) in
    record {
      positions = grind (arith, nat_tests, h);
      points = AllPass-from_list_all (λ position. is_range_within (length points) position.0 position.1) (slice_range positions from to) all;
    }

pub strings_are_valid_at : (positions : List (ℕ × ℕ)) (points : List ℕ) (names : List (ℕ × ℕ)) (of_positions of_points : ℕ) →
    length positions ≡ of_positions → length points ≡ of_points →
    IsTrue (list_all (λ n. are_strings_in positions of_positions of_points n.0 n.1) names) →
    All (λ n. AreStringsAt positions points n.0 n.1) names
strings_are_valid_at positions points names of_positions of_points is are h =
    All-weaker (λ n. are_strings_in positions of_positions of_points n.0 n.1 ≡ true) (λ n. AreStringsAt positions points n.0 n.1)
    (λ n e. strings_occur_at positions points n.0 n.1 (rw (is, are) e)) names
    (AllPass-from_list_all (λ n. are_strings_in positions of_positions of_points n.0 n.1) names h)

-- ---- named sets and strings

pub canonical_sets : {A : Type 0} (name_of : A → List ℕ) (intervals : List ℕ) (names : List (A × ℕ × ℕ)) →
    AreSets intervals (map (λ n. (n.1, n.2)) names) → HasCanonicalSets (map (λ n. named_set intervals (name_of n.0) n.1 n.2) names)
canonical_sets name_of intervals [] h = All-nil (λ entry. IsCanonical entry.value)
canonical_sets name_of intervals (n ∷ names) h =
    let here = All-head (λ p. IsTrue (is_set_at intervals p.0 p.1)) (n.1, n.2) (map (λ n. (n.1, n.2)) names) h in
    let rest = All-tail (λ p. IsTrue (is_set_at intervals p.0 p.1)) (n.1, n.2) (map (λ n. (n.1, n.2)) names) h in
    All-cons (λ entry. IsCanonical entry.value) (named_set intervals (name_of n.0) n.1 n.2) _
    (and_parts (is_range_within (length intervals) n.1 n.2) _ here).1 (canonical_sets name_of intervals names rest)

both_parts : {A : Type 0} (q : A → Bool) (xs : List A) (i : ℕ) → list_all q xs ≡ true →
    (list_all q (take i xs) ≡ true) × (list_all q (drop i xs) ≡ true)
both_parts q xs i h =
    and_parts (list_all q (take i xs)) (list_all q (drop i xs))
    (sym (list_all-append q (take i xs) (drop i xs)) ∙ ap (list_all q) (take-append-drop i xs) ∙ h)

all_slice : {A : Type 0} (q : A → Bool) (xs : List A) (a b : ℕ) → list_all q xs ≡ true → list_all q (slice_range xs a b) ≡ true
all_slice q xs a b h = (both_parts q (drop a xs) (b - a) (both_parts q xs a h).1).0

all_weaker : {A : Type 0} (p q : A → Bool) → ((x : A) → p x ≡ true → q x ≡ true) → (xs : List A) → list_all p xs ≡ true →
    list_all q xs ≡ true
all_weaker p q weaker [] h = refl
all_weaker p q weaker (x ∷ xs) h =
    let parts = and_parts (p x) (list_all p xs) h in
    both (q x) (list_all q xs) (weaker x parts.0) (all_weaker p q weaker xs parts.1)

-- a nonempty range in a list of that length
abbrev pub is_nonempty_range : ℕ → ℕ × ℕ → Bool
is_nonempty_range count p = nat_lt p.0 p.1 && nat_le p.1 count

abbrev pub is_point : ℕ → Bool
is_point c = nat_le c code_point_max

string_there : (points : List ℕ) (p : ℕ × ℕ) → list_all is_point points ≡ true → is_nonempty_range (length points) p ≡ true →
    is_string (slice_range points p.0 p.1) ≡ true
string_there points p all h =
    let up : p.0 < p.1 = grind (arith, nat_tests, h) in
    let fit : p.1 ≤ length points = grind (arith, nat_tests, h) in
    let size : 0 < length (slice_range points p.0 p.1) =
    omega (arith, up, fit, length-take (p.1 - p.0) (drop p.0 points), length-drop p.0 points) in
    both (nat_lt 0 (length (slice_range points p.0 p.1))) _ (grind (arith, nat_tests, size)) (all_slice is_point points p.0 p.1 all)

pub are_strings : {A : Type 0} (name_of : A → List ℕ) (positions : List (ℕ × ℕ)) (points : List ℕ) (count : ℕ) → length points ≡ count →
    list_all is_point points ≡ true → list_all (is_nonempty_range count) positions ≡ true → (names : List (A × ℕ × ℕ)) →
    HasStrings (map (λ n. named_strings positions points (name_of n.0) n.1 n.2) names)
are_strings name_of positions points count is all fit [] = refl
are_strings name_of positions points count is all fit (n ∷ names) =
    let there : (p : ℕ × ℕ) → is_nonempty_range count p ≡ true → is_string (slice_range points p.0 p.1) ≡ true =
    λ p h. string_there points p all (subst (λ (k : ℕ). is_nonempty_range k p ≡ true) (sym is) h) in
    let here = all_weaker (is_nonempty_range count) (λ p. is_string (slice_range points p.0 p.1)) there (slice_range positions n.1 n.2)
    (all_slice (is_nonempty_range count) positions n.1 n.2 fit) in
    both (list_all is_string (strings_at positions points n.1 n.2)) _
    (list_all-map is_string (λ (p : ℕ × ℕ). slice_range points p.0 p.1) (slice_range positions n.1 n.2) ∙ here)
    (are_strings name_of positions points count is all fit names)
