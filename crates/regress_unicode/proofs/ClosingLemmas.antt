-- Steps of the closure of a set: leaving out, appending and stopping at intervals.
use Rattle.std.proofs.Common.{◌≡◌, ℕ, ◌+◌, ◌-◌, ◌<◌, ◌≤◌, ◌==◌, Bool, true, false, ◌||◌, IsTrue, List, [], ◌∷◌, ◌++◌, length, take, drop, get_or, suc, zero, le_refl, inl, inr, refl, sym, ap, subst, ◌∙◌, ◌⊎◌, ℤ, pos, negsuc, IsPermutation, Option, Some, None, slice_get, max, arith}
use Rattle.std.proofs.lemmas.Bool.{cases_lt}
use Rattle.std.proofs.lemmas.Bool.Decides.{nat_tests}
use Rattle.std.proofs.lemmas.List.{take_all, length-drop, get_or_read}
use Rattle.std.proofs.lemmas.List.Sorted.{list_any-IsPermutation}
use Rattle.std.proofs.Math.Seq.{take-nil}
use Rattle.std.proofs.Math.Bool.{or-false, or-true}
use Rattle.std.specs.List.{list_any}
use Rattle.std.specs.List.Sorted.{IsNonDecreasingBy}
use Rattle.regress_base.proofs.lemmas.Sets.{or_assoc, gt-is_within, is_member-nil, is_member-cons, is_member-one, is_member-append, is_member-take_more, canonical_parts, canonical_lower, from_first, member_above, no_member_below}
use Rattle.regress_base.specs.Intervals.{Bounds, is_within, is_member, is_canonical_from, IsCanonical}
use Rattle.regress_unicode.specs.declared.shift.Shift.{Shift}
use Rattle.regress_unicode.specs.FoldEntries.{FoldEntry, moved}
use Rattle.regress_unicode.specs.ValidEntries.{stays_in_range, is_in_order}
use Rattle.regress_unicode.proofs.ListLemmas.{order_apart}
use Rattle.regress_unicode.specs.Shifts.{IsShift, maps_to, maps_to_by}
use Rattle.regress_unicode.proofs.ShiftLemmas.{maps_to-same, maps_to-none, mappings_more, apart_from}

-- ---- one more interval

pub pushed : (xs ys : List Bounds) (iv : Bounds) (c : ℕ) → ys ≡ xs ++ iv ∷ [] → is_member ys c ≡ (is_member xs c || is_within iv c)
pushed xs ys iv c is =
    ap (λ l. is_member l c) is ∙ is_member-append xs (iv ∷ []) c ∙ ap (λ b. is_member xs c || b) (is_member-one iv c)

one_within : (k c : ℕ) → is_within (record { first = k; last = k }) c ≡ (c == k)
unfolding is_within
one_within k c = grind (arith, nat_tests)

pub pushed_one : (xs ys : List Bounds) (iv : Bounds) (k m c : ℕ) → ys ≡ xs ++ iv ∷ [] → iv ≡ record { first = k; last = k } → k ≡ m →
    is_member ys c ≡ (is_member xs c || (c == m))
pushed_one xs ys iv k m c is one same =
    pushed xs ys iv c is
    ∙ ap (λ b. is_member xs c || b) (ap (λ v. is_within v c) one ∙ one_within k c ∙ ap (λ n. c == n) same)

-- a set outside which something was added, in a larger set
pub widened : (small large old new added : Bool) → (small ≡ true → large ≡ true) → (small || new) ≡ ((small || old) || added) →
    (large || new) ≡ ((large || old) || added)
widened small true old new added within is = refl
widened false false old new added within is = is
widened true false old new added within is = let no : false ≡ true = within refl in cc

taken_within : (ivs : List Bounds) (n c : ℕ) → is_member (take n ivs) c ≡ true → is_member ivs c ≡ true
taken_within ivs zero c member = let no : false ≡ true = sym (is_member-nil c) ∙ member in cc
taken_within [] (suc n) c member = member
taken_within (iv ∷ ivs) (suc n) c member =
    is_member-cons iv ivs c ∙ by_first (is_within iv c) (sym (is_member-cons iv (take n ivs) c) ∙ member) (taken_within ivs n c)
  where
    by_first : (b : Bool) → (b || is_member (take n ivs) c) ≡ true → (is_member (take n ivs) c ≡ true → is_member ivs c ≡ true) →
        (b || is_member ivs c) ≡ true
    by_first true e rest = refl
    by_first false e rest = rest e

-- an element of the list has only members
pub member_at : (ivs : List Bounds) (i c : ℕ) (iv : Bounds) → i < length ivs → iv ≡ get_or ivs i iv → is_within iv c ≡ true →
    is_member ivs c ≡ true
member_at ivs i c iv inside is within =
    let here : is_within (get_or ivs i iv) c ≡ true = sym (ap (λ v. is_within v c) is) ∙ within in
    let more = is_member-take_more ivs i c iv inside in
    taken_within ivs (i + 1) c (more ∙ ap (λ b. is_member (take i ivs) c || b) here ∙ or-true (is_member (take i ivs) c))

-- a code point from the first one to the last one
pub source_in : (iv : Bounds) (k x : ℕ) → iv.first ≤ k → k ≤ iv.last → (x == k) ≡ true → is_within iv x ≡ true
unfolding is_within
source_in iv k x from to same = grind (arith, nat_tests, same)

-- a code point and the next one
pub two_within : (k c : ℕ) → is_within (record { first = k; last = k + 1 }) c ≡ ((c == k) || (c == k + 1))
unfolding is_within
two_within k c = grind (arith, nat_tests)

-- two intervals as one
pub joined_within : (a b : Bounds) (last c : ℕ) → a.first ≤ b.first → b.first ≤ a.last + 1 → a.first ≤ a.last → b.first ≤ b.last → last ≡ max a.last b.last →
    is_within (record { first = a.first; last = last }) c ≡ (is_within a c || is_within b c)
unfolding is_within
joined_within a b last c from to a_ordered b_ordered is = grind (arith, nat_tests)

-- two intervals are appended
pub pushed_both : (xs ys zs : List Bounds) (a b : Bounds) (c : ℕ) → ys ≡ xs ++ a ∷ [] → zs ≡ ys ++ b ∷ [] →
    is_member zs c ≡ (is_member xs c || (is_within a c || is_within b c))
pushed_both xs ys zs a b c is_first is_second =
    pushed ys zs b c is_second ∙ ap (λ v. v || is_within b c) (pushed xs ys a c is_first)
    ∙ sym (or_assoc (is_member xs c) (is_within a c) (is_within b c))

-- the last interval is taken out, and put back with another one
pub put_back : (old rest new : List Bounds) (last interval : Bounds) (c : ℕ) → old ≡ rest ++ last ∷ [] →
    is_member new c ≡ (is_member rest c || (is_within last c || is_within interval c)) → is_member new c ≡ (is_member old c || is_within interval c)
put_back old rest new last interval c is_old is_new =
    is_new ∙ or_assoc (is_member rest c) (is_within last c) (is_within interval c)
    ∙ ap (λ b. b || is_within interval c) (sym (pushed rest old last c is_old))

-- there was no last interval
pub put_first : (old rest new : List Bounds) (interval : Bounds) (c : ℕ) → old ≡ rest ++ [] → new ≡ rest ++ interval ∷ [] →
    is_member new c ≡ (is_member old c || is_within interval c)
put_first old rest new interval c is_old is_new =
    pushed rest new interval c is_new
    ∙ ap (λ b. b || is_within interval c)
    (sym (ap (λ l. is_member l c) is_old ∙ is_member-append rest [] c ∙ ap (λ b. is_member rest c || b) (is_member-nil c) ∙ or-false (is_member rest c)))

-- a code point with the next one or the one before, or its target alone
pub target_after : (old new : List Bounds) (iv : Bounds) (source target c : ℕ) → source + 1 ≡ target → iv ≡ record { first = source; last = target } →
    is_member new c ≡ (is_member old c || is_within iv c) →
    ((c == source) || is_member new c) ≡ (((c == source) || is_member old c) || (c == target))
target_after old new iv source target c next is added =
    ap (λ b. (c == source) || b) (added ∙ ap (λ b. is_member old c || b) (ap (λ v. is_within v c) is ∙ two))
    ∙ by_test (c == source) (is_member old c) (c == target)
  where
    two : is_within (record { first = source; last = target }) c ≡ ((c == source) || (c == target))
    two = rw (← next) (two_within source c)

    by_test : (s o t : Bool) → (s || (o || (s || t))) ≡ ((s || o) || t)
    by_test true o t = refl
    by_test false true t = refl
    by_test false false t = refl

pub target_before : (old new : List Bounds) (iv : Bounds) (source target c : ℕ) → target + 1 ≡ source → iv ≡ record { first = target; last = source } →
    is_member new c ≡ (is_member old c || is_within iv c) →
    ((c == source) || is_member new c) ≡ (((c == source) || is_member old c) || (c == target))
target_before old new iv source target c next is added =
    ap (λ b. (c == source) || b) (added ∙ ap (λ b. is_member old c || b) (ap (λ v. is_within v c) is ∙ two))
    ∙ by_test (c == source) (is_member old c) (c == target)
  where
    two : is_within (record { first = target; last = source }) c ≡ ((c == target) || (c == source))
    two = rw (← next) (two_within target c)

    by_test : (s o t : Bool) → (s || (o || (t || s))) ≡ ((s || o) || t)
    by_test true o t = refl
    by_test false true t = refl
    by_test false false true = refl
    by_test false false false = refl

pub target_alone : (old new : List Bounds) (iv : Bounds) (source target c : ℕ) → new ≡ old ++ iv ∷ [] → iv ≡ record { first = target; last = target } →
    ((c == source) || is_member new c) ≡ (((c == source) || is_member old c) || (c == target))
target_alone old new iv source target c is one =
    ap (λ b. (c == source) || b) (pushed_one old new iv target target c is one refl) ∙ or_assoc (c == source) (is_member old c) (c == target)

-- ---- intervals that are left out

-- the intervals from an index on are canonical
pub canonical_drop : (low : ℕ) (ivs : List Bounds) (k : ℕ) → IsTrue (is_canonical_from low ivs) → IsCanonical (drop k ivs)
canonical_drop low ivs zero can = canonical_lower low 0 ivs (omega arith) can
canonical_drop low [] (suc k) can = refl
canonical_drop low (iv ∷ ivs) (suc k) can = canonical_drop (iv.last + 2) ivs k (canonical_parts low iv ivs can).rest

-- if all earlier intervals end below a number, they have the same members from it on
pub members_after : (ivs : List Bounds) (k low x : ℕ) → ((j : ℕ) (d : Bounds) → j < k → j < length ivs → (get_or ivs j d).last < low) →
    low ≤ x → is_member (drop k ivs) x ≡ is_member ivs x
members_after ivs zero low x below le = refl
members_after [] (suc k) low x below le = refl
members_after (iv ∷ ivs) (suc k) low x below le =
    let here = below zero iv (omega arith) (omega arith) in
    members_after ivs k low x (λ j d lt inside. below (suc j) d (omega arith) (omega arith)) le
    ∙ sym (is_member-cons iv ivs x ∙ ap (λ b. b || is_member ivs x) (gt-is_within iv x (omega (arith, here))))

-- the slice from an index to the end
to_end : (ivs : List Bounds) (k : ℕ) → take (length ivs - k) (drop k ivs) ≡ drop k ivs
to_end ivs k = let len = length-drop k ivs in take_all (length ivs - k) (drop k ivs) (omega arith)

pub slice_canonical : (ivs : List Bounds) (k : ℕ) → IsCanonical ivs → IsCanonical (take (length ivs - k) (drop k ivs))
slice_canonical ivs k can = rw (to_end ivs k) (canonical_drop 0 ivs k can)

pub slice_members : (ivs : List Bounds) (k low x : ℕ) → ((j : ℕ) (d : Bounds) → j < k → (get_or ivs j d).last < low) →
    low ≤ x → is_member (take (length ivs - k) (drop k ivs)) x ≡ is_member ivs x
slice_members ivs k low x below le = rw (to_end ivs k) (members_after ivs k low x (λ j d lt inside. below j d lt) le)

dropped_within : (ivs : List Bounds) (k x : ℕ) → is_member (drop k ivs) x ≡ true → is_member ivs x ≡ true
dropped_within ivs zero x member = member
dropped_within [] (suc k) x member = member
dropped_within (iv ∷ ivs) (suc k) x member =
    is_member-cons iv ivs x ∙ ap (λ b. is_within iv x || b) (dropped_within ivs k x member) ∙ or-true (is_within iv x)

pub slice_within : (ivs : List Bounds) (k x : ℕ) → is_member (take (length ivs - k) (drop k ivs)) x ≡ true → is_member ivs x ≡ true
slice_within ivs k x member = dropped_within ivs k x (sym (ap (λ (l : List Bounds). is_member l x) (to_end ivs k)) ∙ member)

-- the intervals before an index contain every member below the interval at the index
members_before : (low : ℕ) (ivs : List Bounds) (i x : ℕ) (d : Bounds) → IsTrue (is_canonical_from low ivs) → i < length ivs →
    x < (get_or ivs i d).first → is_member (take i ivs) x ≡ is_member ivs x
members_before low [] i x d can inside lt = absurd (omega arith)
members_before low (iv ∷ ivs) zero x d can inside lt =
    is_member-nil x ∙ sym (no_member_below iv.first (iv ∷ ivs) x (from_first low iv ivs can) lt)
members_before low (iv ∷ ivs) (suc i) x d can inside lt =
    let p = canonical_parts low iv ivs can in
    is_member-cons iv (take i ivs) x
    ∙ ap (λ b. is_within iv x || b) (members_before (iv.last + 2) ivs i x d p.rest (omega arith) lt)
    ∙ sym (is_member-cons iv ivs x)

-- a shift whose range ends before an interval maps nothing of that interval or of later ones
pub lands_before : (s : Shift) (ivs : List Bounds) (i c : ℕ) (iv : Bounds) → IsCanonical ivs → i < length ivs → iv ≡ get_or ivs i iv →
    s.last < iv.first → maps_to s (is_member (take i ivs)) c ≡ maps_to s (is_member ivs) c
lands_before s ivs i c iv can inside is past =
    maps_to-same s _ _ c (λ x from to. members_before 0 ivs i x iv can inside
    (subst (λ (v : Bounds). x < v.first) is (omega arith)))

-- ---- the first and the last member

pub lasts_rise : (low : ℕ) (ivs : List Bounds) → IsTrue (is_canonical_from low ivs) → IsNonDecreasingBy (λ iv. iv.last) ivs
lasts_rise low [] can i j d le lt = absurd (omega arith)
lasts_rise low (iv ∷ ivs) can zero zero d le lt = le_refl _
lasts_rise low (iv ∷ ivs) can zero (suc j) d le lt =
    let later = apart_from (iv.last + 2) ivs j d (canonical_parts low iv ivs can).rest (omega arith) in
    omega (arith, later.0, later.1)
lasts_rise low (iv ∷ ivs) can (suc i) zero d le lt = absurd (omega arith)
lasts_rise low (iv ∷ ivs) can (suc i) (suc j) d le lt =
    lasts_rise (iv.last + 2) ivs (canonical_parts low iv ivs can).rest i j d (omega arith) (omega arith)

pub first_least : (ivs : List Bounds) (x : ℕ) (d : Bounds) → IsCanonical ivs → is_member ivs x ≡ true → 0 < length ivs → (get_or ivs 0 d).first ≤ x
first_least [] x d can member some = absurd (omega arith)
first_least (iv ∷ ivs) x d can member some = (member_above iv.first (iv ∷ ivs) x (from_first 0 iv ivs can) member).0

within_last : (iv : Bounds) (x : ℕ) → is_within iv x ≡ true → x ≤ iv.last
unfolding is_within
within_last iv x h = grind (arith, nat_tests)

pub last_greatest : (low : ℕ) (ivs : List Bounds) (k x : ℕ) (d : Bounds) → IsTrue (is_canonical_from low ivs) → k + 1 ≡ length ivs →
    is_member ivs x ≡ true → x ≤ (get_or ivs k d).last
last_greatest low [] k x d can is member = absurd (omega arith)
last_greatest low (iv ∷ []) zero x d can is member = within_last iv x (sym (is_member-one iv x) ∙ member)
last_greatest low (iv ∷ next ∷ ivs) zero x d can is member = absurd (omega arith)
last_greatest low (iv ∷ ivs) (suc k) x d can is member =
    let p = canonical_parts low iv ivs can in
    let apart = apart_from (iv.last + 2) ivs k d p.rest (omega arith) in
    by_first (is_within iv x) refl (sym (is_member-cons iv ivs x) ∙ member)
    (omega (arith, apart.0, apart.1)) (last_greatest (iv.last + 2) ivs k x d p.rest (omega arith))
  where
    by_first : (b : Bool) → is_within iv x ≡ b → (b || is_member ivs x) ≡ true → iv.last ≤ (get_or ivs k d).last →
        (is_member ivs x ≡ true → x ≤ (get_or ivs k d).last) → x ≤ (get_or ivs k d).last
    by_first true e h le later = let here = within_last iv x e in omega (arith, here, le)
    by_first false e h le later = later h

pub below_first_none : (ivs : List Bounds) (x : ℕ) (d : Bounds) → IsCanonical ivs → 0 < length ivs → x < (get_or ivs 0 d).first → is_member ivs x ≡ false
below_first_none [] x d can some lt = absurd (omega arith)
below_first_none (iv ∷ ivs) x d can some lt = no_member_below iv.first (iv ∷ ivs) x (from_first 0 iv ivs can) lt

-- ---- one more entry

-- a shift with no member in its range maps nothing
lands_outside : (s : Shift) (p : ℕ → Bool) (c : ℕ) → ((x : ℕ) → s.first ≤ x → x ≤ s.last → p x ≡ false) → maps_to s p c ≡ false
lands_outside s p c h = maps_to-same s p (λ x. false) c h ∙ maps_to-none s (λ x. false) c (λ x. refl)

pub mapping_no_more : (way : FoldEntry → Shift) (p : ℕ → Bool) (mappings : List FoldEntry) (i c : ℕ) (mapping : FoldEntry) (old so_far : Bool) →
    i < length mappings → mapping ≡ get_or mappings i mapping → ((x : ℕ) → (way mapping).first ≤ x → x ≤ (way mapping).last → p x ≡ false) →
    so_far ≡ (old || maps_to_by way (take i mappings) p c) → so_far ≡ (old || maps_to_by way (take (i + 1) mappings) p c)
mapping_no_more way p mappings i c mapping old so_far lt is none is_so_far =
    mappings_more way p mappings i c mapping (way mapping) old so_far so_far lt is refl is_so_far
    (sym (or-false so_far) ∙ ap (λ b. so_far || b) (sym (lands_outside (way mapping) p c none)))

-- entries that map nothing add nothing
pub mappings_done : (way : FoldEntry → Shift) (p : ℕ → Bool) (mappings : List FoldEntry) (i c : ℕ) (d : FoldEntry) →
    ((k : ℕ) → i ≤ k → k < length mappings → (x : ℕ) → (way (get_or mappings k d)).first ≤ x → p x ≡ false) →
    maps_to_by way (take i mappings) p c ≡ maps_to_by way mappings p c
unfolding maps_to_by
mappings_done way p [] i c d none = ap (λ rs. list_any (λ r. maps_to (way r) p c) rs) (take-nil i)
mappings_done way p (mapping ∷ mappings) zero c d none =
    rw (lands_outside (way mapping) p c (λ x from to. none zero (omega arith) (omega arith) x from))
    (mappings_done way p mappings zero c d (λ k le lt. none (suc k) (omega arith) (omega arith)))
mappings_done way p (mapping ∷ mappings) (suc i) c d none =
    ap (λ b. maps_to (way mapping) p c || b) (mappings_done way p mappings i c d (λ k le lt. none (suc k) (omega arith) (omega arith)))

-- an entry does not begin above a later one
starts_rise : (mappings : List FoldEntry) (i k : ℕ) (mapping d : FoldEntry) → IsTrue (is_in_order mappings) → i ≤ k → k < length mappings →
    mapping ≡ get_or mappings i mapping → mapping.start ≤ (get_or mappings k d).start
starts_rise mappings i k mapping d order le lt is =
    let here : mapping.start ≡ (get_or mappings i d).start = ap (λ (r : FoldEntry). r.start) (get_or_read mappings i mapping (omega arith) is d) in
    elim (cases_lt i k) [
      | inl before ↦ (let apart = order_apart 0 mappings i k d order before lt in omega (arith, apart, here))
      | inr not_before ↦ (let same : i ≡ k = omega arith in
          let there : (get_or mappings i d).start ≡ (get_or mappings k d).start = ap (λ n. (get_or mappings n d).start) same in
          omega (arith, here, there))
    ]

-- the remaining intervals at an entry have every member that this entry or a later one maps
pub left : (mappings : List FoldEntry) (i first : ℕ) (mapping : FoldEntry) (ivs before after : List Bounds) → IsTrue (is_in_order mappings) →
    mapping ≡ get_or mappings i mapping → first ≡ mapping.start →
    ((k : ℕ) (d : FoldEntry) → i ≤ k → k < length mappings → (x : ℕ) → (get_or mappings k d).start ≤ x → is_member before x ≡ is_member ivs x) →
    ((x : ℕ) → first ≤ x → is_member after x ≡ is_member before x) →
    (k : ℕ) (d : FoldEntry) → i ≤ k → k < length mappings → (x : ℕ) → (get_or mappings k d).start ≤ x → is_member after x ≡ is_member ivs x
left mappings i first mapping ivs before after order is is_first same passed k d le lt x from =
    let rises = starts_rise mappings i k mapping d order le lt is in
    passed x (omega (arith, rises, from)) ∙ same k d le lt x from

pub positive : (n : ℕ) → (n == 0) ≡ false → 0 < n
positive zero e = let no : true ≡ false = e in cc
positive (suc n) e = omega arith

pub no_member : (ivs : List Bounds) (x : ℕ) → length ivs ≡ 0 → IsTrue (is_member ivs x) → ⊥
no_member [] x none member = let no : false ≡ true = sym (is_member-nil x) ∙ member in cc
no_member (iv ∷ ivs) x none member = omega arith

pub no_members : (ivs : List Bounds) (x : ℕ) → length ivs ≡ 0 → is_member ivs x ≡ false
no_members [] x none = is_member-nil x
no_members (iv ∷ ivs) x none = absurd (omega arith)

pub found_none : (way : FoldEntry → Shift) (p : ℕ → Bool) (c : ℕ) (found : List Bounds) → found ≡ [] → is_member found c ≡ maps_to_by way [] p c
unfolding maps_to_by
found_none way p c found none = ap (λ l. is_member l c) none ∙ is_member-nil c

-- there is no member beyond the ends
pub beyond : (ivs : List Bounds) (low high x : ℕ) → ((y : ℕ) → IsTrue (is_member ivs y) → (low ≤ y) × (y ≤ high)) →
    (x < low) ⊎ (high < x) → is_member ivs x ≡ false
beyond ivs low high x ends out = by_test (is_member ivs x) refl
  where
    outside : (low ≤ x) × (x ≤ high) → (x < low) ⊎ (high < x) → ⊥
    outside within (inl below) = omega (arith, within.0, below)
    outside within (inr above) = omega (arith, within.1, above)

    by_test : (b : Bool) → is_member ivs x ≡ b → b ≡ false
    by_test false e = refl
    by_test true e = absurd (outside (ends x e) out)

-- ---- ranges that are mapped into one interval

-- what a shift maps a code point to lies between what it maps its ends to
targets_between : (s : Shift) (p : ℕ → Bool) (c : ℕ) (delta : ℤ) → IsTrue (stays_in_range delta s.first) →
    IsTrue (maps_to (record { first = s.first; last = s.last; delta = delta; modulo = s.modulo }) p c) →
    (moved delta s.first ≤ c) × (c ≤ moved delta s.last)
unfolding maps_to
targets_between s p c (pos n) first mapped = (grind (arith, nat_tests, mapped), grind (arith, nat_tests, mapped))
targets_between s p c (negsuc n) first mapped = (grind (arith, nat_tests, first, mapped), grind (arith, nat_tests, first, mapped))

-- an interval that contains what both ends are mapped to contains what any code point is mapped to
pub mapped_within : (s : Shift) (p : ℕ → Bool) (c : ℕ) (iv : Bounds) → IsShift s → iv.first ≤ moved s.delta s.first →
    moved s.delta s.last ≤ iv.last → IsTrue (maps_to s p c) → (moved s.delta s.first ≤ c) × (is_within iv c ≡ true)
unfolding is_within
mapped_within s p c iv shift first last mapped =
    let between = targets_between s p c s.delta shift.first_lands mapped in
    (between.0, grind (arith, nat_tests, first, last, between.0, between.1))

abbrev within_some : Option Bounds → ℕ → Bool
within_some (Some iv) x = is_within iv x
within_some None x = false

pub first_member : (ivs : List Bounds) (iv : Bounds) (x : ℕ) → Some iv ≡ slice_get ivs 0 → is_within iv x ≡ true → IsTrue (is_member ivs x)
first_member [] iv x is within = let no : false ≡ true = sym (ap (λ o. within_some o x) is) ∙ within in cc
first_member (first ∷ ivs) iv x is within =
    is_member-cons first ivs x ∙ ap (λ b. b || is_member ivs x) (sym (ap (λ o. within_some o x) is) ∙ within)

-- ---- intervals in another order

any_member : (ivs : List Bounds) (c : ℕ) → is_member ivs c ≡ list_any (λ iv. is_within iv c) ivs
any_member [] c = is_member-nil c
any_member (iv ∷ ivs) c = is_member-cons iv ivs c ∙ ap (λ b. is_within iv c || b) (any_member ivs c)

pub is_member-IsPermutation : (xs ys : List Bounds) (c : ℕ) → IsPermutation xs ys → is_member ys c ≡ is_member xs c
is_member-IsPermutation xs ys c permutation =
    any_member ys c ∙ sym (list_any-IsPermutation (λ iv. is_within iv c) xs ys permutation) ∙ sym (any_member xs c)
