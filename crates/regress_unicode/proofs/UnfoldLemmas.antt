-- The code points with a given canonical form, appended to a list entry by entry.
use Rattle.std.proofs.Common.{◌≡◌, ℕ, ◌+◌, ◌<◌, ◌≤◌, Bool, true, false, ◌&&◌, ◌||◌, nat_le, ◌==◌, IsTrue, List, [], ◌∷◌, ◌++◌, refl, sym, ap, subst, ◌∙◌, arith}
use Rattle.std.proofs.lemmas.Bool.{eq-eqb}
use Rattle.std.proofs.lemmas.Bool.Decides.{nat_tests}
use Rattle.regress_base.specs.Intervals.{code_point_max}
use Rattle.regress_unicode.specs.FoldEntries.{FoldEntry, is_source}
use Rattle.regress_base.specs.Listing.{lists, is_ascending, is_ascending_from}
use Rattle.regress_base.proofs.lemmas.Listings.{ascending_parts, lists-append, lists-head, lists-tail}
use Rattle.regress_base.proofs.lemmas.Literals.{lists-one}

-- ---- appending a number

end_ascending : (low : ℕ) (xs : List ℕ) (c : ℕ) → IsTrue (is_ascending_from low xs) → ((x : ℕ) → lists xs x ≡ true → x < c) → low ≤ c →
    IsTrue (is_ascending_from low (xs ++ c ∷ []))
end_ascending low [] c h below le = grind (arith, nat_tests)
end_ascending low (x ∷ xs) c h below le =
    let parts = ascending_parts low x xs h in
    let first : x < c = below x (lists-head x xs) in
    let rest = end_ascending (x + 1) xs c parts.rest (λ y listed. below y (lists-tail x xs y listed)) (omega (arith, first)) in
    grind (arith, nat_tests, parts.above, rest)

pub pushed_ascending : (xs ys : List ℕ) (c : ℕ) → IsTrue (is_ascending xs) → ((x : ℕ) → lists xs x ≡ true → x < c) → ys ≡ xs ++ c ∷ [] →
    IsTrue (is_ascending ys)
pushed_ascending xs ys c h below is =
    subst (λ (l : List ℕ). IsTrue (is_ascending l)) (sym is) (end_ascending 0 xs c h below (omega arith))

pub pushed_lists : (xs ys : List ℕ) (c x : ℕ) → ys ≡ xs ++ c ∷ [] → lists ys x ≡ (lists xs x || (x == c))
pushed_lists xs ys c x is =
    ap (λ l. lists l x) is ∙ lists-append xs (c ∷ []) x ∙ ap (λ b. lists xs x || b) (lists-one c x)

-- a number that is mapped is in the range
pub source_within : (mapping : FoldEntry) (target source : ℕ) → ((c : ℕ) → is_source mapping target c ≡ (c == source)) →
    (mapping.start ≤ source) × (source < mapping.start + mapping.length)
source_within mapping target source some =
    let here : is_source mapping target source ≡ true = some source ∙ eq-eqb source source refl in
    (grind (arith, nat_tests, here), grind (arith, nat_tests, here))

pub target_added : (x target : ℕ) (old new before : Bool) → target ≤ code_point_max → old ≡ (nat_le x code_point_max && before) →
    new ≡ (old || (x == target)) → new ≡ (nat_le x code_point_max && ((x == target) || before))
target_added x target old new before le so_far is =
    let within : (x == target) ≡ (nat_le x code_point_max && (x == target)) = grind (arith, nat_tests) in
    is ∙ ap (λ b. b || (x == target)) so_far ∙ by_cases (nat_le x code_point_max) before (x == target) within
  where
    by_cases : (w b t : Bool) → t ≡ (w && t) → ((w && b) || t) ≡ (w && (t || b))
    by_cases true true true h = refl
    by_cases true true false h = refl
    by_cases true false true h = refl
    by_cases true false false h = refl
    by_cases false b t h = h

-- ---- the empty list

pub listed_none : (list : List ℕ) (x : ℕ) → list ≡ [] → lists list x ≡ (nat_le x code_point_max && false)
listed_none list x is = rw is (grind (arith, nat_tests))
