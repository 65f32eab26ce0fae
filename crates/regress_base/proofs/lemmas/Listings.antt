-- Ascending lists of numbers.
use Rattle.std.proofs.Common.{◌≡◌, ◌≢◌, ℕ, zero, suc, ◌+◌, ◌-◌, ◌<◌, ◌≤◌, Bool, true, false, not, ◌&&◌, ◌||◌, nat_le, ◌==◌, IsTrue, List, [], ◌∷◌, ◌++◌, length, get_or, insert, cond, filter, nat_lt, All, inl, inr, refl, sym, ap, subst, ◌∙◌, arith}
use Rattle.std.proofs.lemmas.Bool.{cases_eq, eqb-true}
use Rattle.std.proofs.lemmas.Bool.Decides.{nat_tests}
use Rattle.std.proofs.lemmas.List.Elements.{All-nil, All-cons}
use Rattle.std.specs.List.{range_with_len, flat_map}
use Rattle.regress_base.specs.Intervals.{Bounds, code_point_max, is_within, is_member, is_canonical_from}
use Rattle.regress_base.proofs.lemmas.Sets.{is_member-nil, is_member-cons, canonical_parts}
use Rattle.regress_base.specs.Listing.{lists, is_ascending_from, IsListing, code_points}
use Rattle.regress_base.specs.Table.{HasSmallClasses}

pub record AscendingParts (low x : ℕ) (xs : List ℕ) : Type 0 where
  pub above : low ≤ x
  pub rest : IsTrue (is_ascending_from (x + 1) xs)

pub ascending_parts : (low x : ℕ) (xs : List ℕ) → IsTrue (is_ascending_from low (x ∷ xs)) → AscendingParts low x xs
ascending_parts low x xs h = grind (arith, nat_tests)

-- a list is ascending from its first number
pub ascending_again : (x : ℕ) (xs : List ℕ) → IsTrue (is_ascending_from (x + 1) xs) → IsTrue (is_ascending_from x (x ∷ xs))
ascending_again x xs h = grind (arith, nat_tests)

pub ascending_lower : (low low' : ℕ) (xs : List ℕ) → low' ≤ low → IsTrue (is_ascending_from low xs) → IsTrue (is_ascending_from low' xs)
ascending_lower low low' [] le h = h
ascending_lower low low' (x ∷ xs) le h = let parts = ascending_parts low x xs h in grind (arith, nat_tests, parts.above, parts.rest)

-- every number of an ascending list is at least `low`
pub ascending_above : (low : ℕ) (xs : List ℕ) (c : ℕ) → IsTrue (is_ascending_from low xs) → lists xs c ≡ true → low ≤ c
ascending_above low [] c h e = cc
ascending_above low (x ∷ xs) c h e =
    let parts = ascending_parts low x xs h in
    elim (x == c) as (λ b. (x == c) ≡ b → low ≤ c) [
      | true ↦ λ same. grind (arith, nat_tests, parts.above)
      | false ↦ λ other. (
          let later : lists xs c ≡ true = grind (arith, nat_tests, e, other) in
          let above = ascending_above (x + 1) xs c parts.rest later in
          omega (arith, parts.above, above))
    ] refl

pub lists-head : (x : ℕ) (xs : List ℕ) → lists (x ∷ xs) x ≡ true
lists-head x xs = grind (arith, nat_tests)

pub lists-tail : (x : ℕ) (xs : List ℕ) (c : ℕ) → lists xs c ≡ true → lists (x ∷ xs) c ≡ true
lists-tail x xs c h = grind (arith, nat_tests, h)

pub lists-past : (x : ℕ) (xs : List ℕ) (c : ℕ) → x ≢ c → lists (x ∷ xs) c ≡ true → lists xs c ≡ true
lists-past x xs c ne h = grind (arith, nat_tests, h)

-- an ascending list whose numbers are all in another one is not longer
pub ascending_within : (low low' : ℕ) (xs ys : List ℕ) → IsTrue (is_ascending_from low xs) → IsTrue (is_ascending_from low' ys) →
    ((c : ℕ) → lists xs c ≡ true → lists ys c ≡ true) → length xs ≤ length ys
ascending_within low low' [] ys hx hy within = omega arith
ascending_within low low' (x ∷ xs) [] hx hy within = let none : false ≡ true = within x (lists-head x xs) in cc
ascending_within low low' (x ∷ xs) (y ∷ ys) hx hy within =
    let px = ascending_parts low x xs hx in
    let py = ascending_parts low' y ys hy in
    elim (cases_eq x y) [
      | inl same ↦ (
          let later : (c : ℕ) → lists xs c ≡ true → lists ys c ≡ true = λ c h.
          (let above = ascending_above (x + 1) xs c px.rest h in
          let ne : y ≢ c = omega (arith, above) in
          lists-past y ys c ne (within c (lists-tail x xs c h))) in
          let shorter = ascending_within (x + 1) (y + 1) xs ys px.rest py.rest later in
          omega (arith, shorter))
      | inr other ↦ (
          let here : lists ys x ≡ true = lists-past y ys x (λ e. other (sym e)) (within x (lists-head x xs)) in
          let above = ascending_above (y + 1) ys x py.rest here in
          let later : (c : ℕ) → lists (x ∷ xs) c ≡ true → lists ys c ≡ true = λ c h.
          (let at_least = ascending_above x (x ∷ xs) c (ascending_again x xs px.rest) h in
          let ne : y ≢ c = omega (arith, above, at_least) in
          lists-past y ys c ne (within c h)) in
          let shorter = ascending_within low (y + 1) (x ∷ xs) ys hx py.rest later in
          omega (arith, shorter))
    ]

-- the numbers of an ascending list that pass a test ascend
pub ascending_filter : (low : ℕ) (p : ℕ → Bool) (xs : List ℕ) → IsTrue (is_ascending_from low xs) →
    IsTrue (is_ascending_from low (filter p xs))
ascending_filter low p [] h = h
ascending_filter low p (x ∷ xs) h =
    let parts = ascending_parts low x xs h in
    let kept = ascending_filter (x + 1) p xs parts.rest in
    let dropped = ascending_lower (x + 1) low (filter p xs) (omega (arith, parts.above)) kept in
    elim (p x) as (λ b. IsTrue (is_ascending_from low (cond b (x ∷ filter p xs) (filter p xs)))) [
      | true ↦ grind (arith, nat_tests, parts.above, kept)
      | false ↦ dropped
    ]

pub lists-filter : (p : ℕ → Bool) (xs : List ℕ) (c : ℕ) → lists (filter p xs) c ≡ (p c && lists xs c)
lists-filter p [] c = grind (arith, nat_tests)
lists-filter p (x ∷ xs) c = by_test (p x) refl (x == c) refl (lists-filter p xs c)
  where
    by_test : (b : Bool) → p x ≡ b → (t : Bool) → (x == c) ≡ t → lists (filter p xs) c ≡ (p c && lists xs c) →
        lists (cond b (x ∷ filter p xs) (filter p xs)) c ≡ (p c && (t || lists xs c))
    by_test true e true same rest = let pc : p c ≡ true = ap p (sym (eqb-true x c same)) ∙ e in rw (same, pc)
    by_test true e false other rest = rw other rest
    by_test false e true same rest = let pc : p c ≡ false = ap p (sym (eqb-true x c same)) ∙ e in rw (rest, pc)
    by_test false e false other rest = rest

-- filtering out a number below the first one changes nothing
filter_all : (low d : ℕ) (xs : List ℕ) → d < low → IsTrue (is_ascending_from low xs) → filter (λ x. not (x == d)) xs ≡ xs
filter_all low d [] lt h = refl
filter_all low d (x ∷ xs) lt h =
    let parts = ascending_parts low x xs h in
    let rest = filter_all (x + 1) d xs (omega (arith, parts.above)) parts.rest in
    let other : (x == d) ≡ false = grind (arith, nat_tests, parts.above) in
    rw (other, rest)

-- filtering one value out of an ascending list drops at most one number
pub length_without : (low d : ℕ) (xs : List ℕ) → IsTrue (is_ascending_from low xs) → length xs ≤ 1 + length (filter (λ x. not (x == d)) xs)
length_without low d [] h = omega arith
length_without low d (x ∷ xs) h = by_test (x == d) refl (length_without (x + 1) d xs (ascending_parts low x xs h).rest)
  where
    by_test : (b : Bool) → (x == d) ≡ b → length xs ≤ 1 + length (filter (λ y. not (y == d)) xs) →
        suc (length xs) ≤ 1 + length (cond (not b) (x ∷ filter (λ y. not (y == d)) xs) (filter (λ y. not (y == d)) xs))
    by_test true e rest =
        let same : x ≡ d = eqb-true x d e in
        let all = filter_all (x + 1) d xs (omega arith) (ascending_parts low x xs h).rest in
        rw all (omega arith)
    by_test false e rest = omega (arith, rest)

-- a run of consecutive numbers before an ascending list above it ascends
pub ascending_append : (low start n : ℕ) (ys : List ℕ) → low ≤ start → IsTrue (is_ascending_from (start + n) ys) →
    IsTrue (is_ascending_from low (range_with_len start n ++ ys))
ascending_append low start zero ys le h = ascending_lower (start + 0) low ys (omega arith) h
ascending_append low start (suc n) ys le h =
    let again : IsTrue (is_ascending_from (start + 1 + n) ys) = subst (λ (k : ℕ). IsTrue (is_ascending_from k ys)) (omega arith) h in
    let rest = ascending_append (start + 1) (start + 1) n ys (omega arith) again in
    grind (arith, nat_tests, rest)

pub lists-append : (xs ys : List ℕ) (c : ℕ) → lists (xs ++ ys) c ≡ (lists xs c || lists ys c)
lists-append [] ys c = refl
lists-append (x ∷ xs) ys c = let rest = lists-append xs ys c in grind (arith, nat_tests, rest)

-- a run contains the numbers from its start up to its end
pub lists-run : (start n c : ℕ) → lists (range_with_len start n) c ≡ (nat_le start c && nat_lt c (start + n))
lists-run start zero c = grind (arith, nat_tests)
lists-run start (suc n) c = let rest = lists-run (start + 1) n c in grind (arith, nat_tests, rest)

-- ---- members of a set

pub lists-interval : (iv : Bounds) (c : ℕ) → lists (code_points iv) c ≡ is_within iv c
unfolding is_within
lists-interval iv c = let run = lists-run iv.first (iv.last + 1 - iv.first) c in grind (arith, nat_tests, run)

pub lists-members : (low : ℕ) (set : List Bounds) (c : ℕ) → IsTrue (is_canonical_from low set) →
    lists (flat_map code_points set) c ≡ is_member set c
lists-members low [] c h = sym (is_member-nil c)
lists-members low (iv ∷ ivs) c h =
    let parts = canonical_parts low iv ivs h in
    lists-append (code_points iv) (flat_map code_points ivs) c
    ∙ rw (lists-interval iv c, lists-members (iv.last + 2) ivs c parts.rest) (sym (is_member-cons iv ivs c))

-- a property of every listed number holds for all elements
pub All-from_lists : (P : ℕ → Type 0) (xs : List ℕ) → ((c : ℕ) → lists xs c ≡ true → P c) → All P xs
All-from_lists P [] h = All-nil P
All-from_lists P (x ∷ xs) h = All-cons P x xs (h x (lists-head x xs)) (All-from_lists P xs (λ c e. h c (lists-tail x xs c e)))

-- at most four code points have the same canonical form
pub few_of_canonical_form : (f : ℕ → ℕ) (mapped : ℕ) (xs : List ℕ) → HasSmallClasses f → IsListing (λ x. f x == mapped) xs → length xs ≤ 4
few_of_canonical_form f mapped xs small listing =
    small mapped xs listing.ascending (All-from_lists (λ x. f x ≡ mapped) xs (λ c e.
    (let both : (nat_le c code_point_max && (f c == mapped)) ≡ true = sym (listing.members c) ∙ e in
    let yes : (f c == mapped) ≡ true = grind (arith, nat_tests, both) in
    eqb-true (f c) mapped yes)))

-- ---- inserting a number in order

ascending_raise : (low low' : ℕ) (xs : List ℕ) → IsTrue (is_ascending_from low xs) → (0 < length xs → (d : ℕ) → low' ≤ get_or xs 0 d)
    → IsTrue (is_ascending_from low' xs)
ascending_raise low low' [] h above = h
ascending_raise low low' (x ∷ xs) h above =
    let parts = ascending_parts low x xs h in
    let first = above (omega arith) 0 in
    grind (arith, nat_tests, parts.rest, first)

pub put_ascending : (low : ℕ) (xs : List ℕ) (position c : ℕ) → IsTrue (is_ascending_from low xs) → low ≤ c → position ≤ length xs
    → ((k d : ℕ) → k < position → get_or xs k d < c) → (position < length xs → (d : ℕ) → c < get_or xs position d)
    → IsTrue (is_ascending_from low (insert xs position c))
put_ascending low xs zero c h above within before after =
    let rest = ascending_raise low (c + 1) xs h (λ some d. (let first = after some d in omega arith)) in
    grind (arith, nat_tests, rest)
put_ascending low [] (suc position) c h above within before after = absurd (omega arith)
put_ascending low (x ∷ xs) (suc position) c h above within before after =
    let parts = ascending_parts low x xs h in
    let first : x < c = before 0 0 (omega arith) in
    let rest = put_ascending (x + 1) xs position c parts.rest (omega (arith, first)) (omega arith)
    (λ k d lt. before (suc k) d (omega arith)) (λ lt d. after (omega arith) d) in
    grind (arith, nat_tests, parts.above, rest)

pub put_lists : (xs : List ℕ) (position c x : ℕ) → position ≤ length xs → lists (insert xs position c) x ≡ (lists xs x || (x == c))
put_lists xs zero c x within = grind (arith, nat_tests)
put_lists [] (suc position) c x within = absurd (omega arith)
put_lists (y ∷ ys) (suc position) c x within =
    let rest = put_lists ys position c x (omega arith) in
    grind (arith, nat_tests, rest)

-- the code points found so far for a canonical form: the target, and one more source
pub listed_source : (x source : ℕ) (old new target before here more : Bool) → source ≤ code_point_max
    → old ≡ (nat_le x code_point_max && (target || before)) → new ≡ (old || (x == source)) → here ≡ (x == source) → more ≡ (before || here)
    → new ≡ (nat_le x code_point_max && (target || more))
listed_source x source old new target before here more le so_far is at is_more =
    let within : (x == source) ≡ (nat_le x code_point_max && (x == source)) = grind (arith, nat_tests) in
    is ∙ rw (so_far, is_more, at) (by_cases (nat_le x code_point_max) target before (x == source) within)
  where
    by_cases : (w t b s : Bool) → s ≡ (w && s) → ((w && (t || b)) || s) ≡ (w && (t || (b || s)))
    by_cases true true b s h = refl
    by_cases true false b s h = refl
    by_cases false t b s h = h
