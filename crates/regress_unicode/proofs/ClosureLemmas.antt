-- The canonical forms of a set, followed by the code points that are mapped to them, make its closure.
use Rattle.std.proofs.Common.{◌≡◌, ◌≢◌, ℕ, zero, suc, ◌+◌, ◌-◌, ◌%◌, ◌≤◌, ◌⊎◌, Bool, true, false, ◌&&◌, ◌||◌, nat_le, ◌==◌, IsTrue, List, [], ◌∷◌, All, cond, ℤ, pos, negsuc, neg_ℤ, refl, sym, ap, subst, ◌∙◌, inl, inr, arith}
use Rattle.std.proofs.lemmas.Bool.{cases_eq, eqb-true, eq-eqb}
use Rattle.std.proofs.lemmas.Bool.Decides.{nat_tests}
use Rattle.std.proofs.Math.Bool.{or-true}
use Rattle.std.proofs.lemmas.List.Elements.{All-head, All-tail}
use Rattle.std.specs.List.{list_any}
use Rattle.regress_base.proofs.lemmas.Sets.{is_member-nil, is_member-cons}
use Rattle.regress_base.specs.Intervals.{Bounds, code_point_max, is_within, is_member}
use Rattle.regress_unicode.specs.declared.shift.Shift.{Shift}
use Rattle.regress_unicode.specs.FoldEntries.{FoldEntry, moved, is_in_mapping, mapped_in_mapping, mapped}
use Rattle.regress_unicode.specs.ValidEntries.{stays_in_range, is_target_in_range, are_targets_in_range, is_in_order_from, is_in_order}
use Rattle.regress_base.specs.Listing.{lists, code_points}
use Rattle.regress_base.specs.Table.{Table, IsIdempotent, is_in_closure}
use Rattle.regress_base.proofs.lemmas.Listings.{lists-head, lists-tail, lists-past, lists-interval}
use Rattle.regress_base.proofs.lemmas.Literals.{same_tests}
use Rattle.regress_unicode.proofs.ListLemmas.{order_parts}
use Rattle.regress_unicode.specs.Shifts.{is_mapped, origin, maps_to, maps_to_by, forward, backward}

-- a nonempty entry whose ends are mapped to code points
pub record IsGoodMapping (mapping : FoldEntry) : Type 0 where
  pub nonempty : 1 ≤ mapping.length
  pub target : IsTrue (is_target_in_range mapping)

-- a code point of an entry that is mapped to another one is at a multiple of the modulo
moves_aligned : (mapping : FoldEntry) (x : ℕ) → mapped_in_mapping mapping x ≢ x → (((x - mapping.start) % mapping.modulo == 0) ≡ true) ×
    (mapped_in_mapping mapping x ≡ moved mapping.delta x)
moves_aligned mapping x other = by_test ((x - mapping.start) % mapping.modulo == 0) other
  where
    by_test : (b : Bool) → cond b (moved mapping.delta x) x ≢ x → (b ≡ true) × (cond b (moved mapping.delta x) x ≡ moved mapping.delta x)
    by_test true ne = (refl, refl)
    by_test false ne = absurd (ne refl)

-- the inverse of a shift undoes it
back_and_forth : (delta : ℤ) (start n x : ℕ) → IsTrue (stays_in_range delta start) → start ≤ x → (origin delta (moved delta x) ≡ x) ×
    (origin (neg_ℤ delta) x ≡ moved delta x) × (moved (neg_ℤ delta) (moved delta x) ≡ x) ×
    (moved delta x - moved delta start ≡ x - start) × (moved delta start ≤ moved delta x)
back_and_forth (pos zero) start n x stays le = grind (arith, nat_tests)
back_and_forth (pos (suc m)) start n x stays le = grind (arith, nat_tests)
back_and_forth (negsuc m) start n x stays le = grind (arith, nat_tests)

lands_at : (s : Shift) (p : ℕ → Bool) (x c : ℕ) → origin s.delta c ≡ x → is_mapped s x ≡ true → p x ≡ true → moved s.delta x ≡ c →
    maps_to s p c ≡ true
unfolding maps_to
lands_at s p x c from hit passes to =
    let yes : (moved s.delta x == c) ≡ true = eq-eqb (moved s.delta x) c to in
    rw (from, hit, passes, yes)

-- what the shift of an entry maps
forward_gives : (mapping : FoldEntry) (p : ℕ → Bool) (c : ℕ) → IsGoodMapping mapping → maps_to (forward mapping) p c ≡ true →
    (x : ℕ) × (is_in_mapping mapping x ≡ true) × (mapped_in_mapping mapping x ≡ c) × (p x ≡ true)
unfolding maps_to
forward_gives mapping p c good h =
    let x : ℕ = origin mapping.delta c in
    let hit : is_mapped (forward mapping) x ≡ true = grind (arith, nat_tests, h) in
    let passes : p x ≡ true = grind (arith, nat_tests, h) in
    let there : moved mapping.delta x ≡ c = grind (arith, nat_tests, h) in
    let on : ((x - mapping.start) % mapping.modulo == 0) ≡ true = grind (arith, nat_tests, hit) in
    let within : is_in_mapping mapping x ≡ true = grind (arith, nat_tests, hit, good.nonempty) in
    (x, within, rw on there, passes)

good_start : (mapping : FoldEntry) → IsGoodMapping mapping → IsTrue (stays_in_range mapping.delta mapping.start) ×
    IsTrue (stays_in_range mapping.delta (mapping.start + mapping.length - 1))
good_start mapping good = grind (arith, nat_tests, good.target)

in_mapping_bounds : (mapping : FoldEntry) (x : ℕ) → is_in_mapping mapping x ≡ true → (mapping.start ≤ x) × (x ≤ mapping.start + mapping.length - 1)
in_mapping_bounds mapping x within = grind (arith, nat_tests, within)

hit_from : (first last modulo x : ℕ) → first ≤ x → x ≤ last → ((x - first) % modulo == 0) ≡ true →
    ((nat_le first x && nat_le x last) && (x - first) % modulo == 0) ≡ true
hit_from first last modulo x low high on = rw on (grind (arith, nat_tests))

forward_from : (mapping : FoldEntry) (p : ℕ → Bool) (x : ℕ) → IsGoodMapping mapping → is_in_mapping mapping x ≡ true → mapped_in_mapping mapping x ≢ x → p x ≡ true →
    maps_to (forward mapping) p (mapped_in_mapping mapping x) ≡ true
forward_from mapping p x good within other passes =
    let on = moves_aligned mapping x other in
    let bounds = in_mapping_bounds mapping x within in
    let back = back_and_forth mapping.delta mapping.start 0 x (good_start mapping good).0 bounds.0 in
    let hit = hit_from mapping.start (mapping.start + mapping.length - 1) mapping.modulo x bounds.0 bounds.1 on.0 in
    subst (λ (c : ℕ). maps_to (forward mapping) p c ≡ true) (sym on.1) (lands_at (forward mapping) p x (moved mapping.delta x) back.0 hit passes refl)

moved_le : (delta : ℤ) (x y : ℕ) → x ≤ y → moved delta x ≤ moved delta y
moved_le (pos n) x y le = omega arith
moved_le (negsuc n) x y le = omega arith

backward_from : (mapping : FoldEntry) (p : ℕ → Bool) (x : ℕ) → IsGoodMapping mapping → is_in_mapping mapping x ≡ true → mapped_in_mapping mapping x ≢ x →
    p (mapped_in_mapping mapping x) ≡ true → maps_to (backward mapping) p x ≡ true
backward_from mapping p x good within other passes =
    let on = moves_aligned mapping x other in
    let bounds = in_mapping_bounds mapping x within in
    let back = back_and_forth mapping.delta mapping.start 0 x (good_start mapping good).0 bounds.0 in
    let aligned : ((moved mapping.delta x - moved mapping.delta mapping.start) % mapping.modulo == 0) ≡ true = subst
    (λ (k : ℕ). (k % mapping.modulo == 0) ≡ true) (sym back.3) on.0 in
    let hit = hit_from (moved mapping.delta mapping.start) (moved mapping.delta (mapping.start + mapping.length - 1)) mapping.modulo (moved mapping.delta x) back.4
    (moved_le mapping.delta x (mapping.start + mapping.length - 1) bounds.1) aligned in
    lands_at (backward mapping) p (moved mapping.delta x) x back.1 hit (subst (λ (k : ℕ). p k ≡ true) on.1 passes) back.2

-- the inverse shift of an entry maps into its range
back_hits : (delta : ℤ) (start last s : ℕ) → IsTrue (stays_in_range delta start) → IsTrue (stays_in_range delta last) → start ≤ last →
    moved delta start ≤ origin (neg_ℤ delta) s → origin (neg_ℤ delta) s ≤ moved delta last →
    moved (neg_ℤ delta) (origin (neg_ℤ delta) s) ≡ s →
    (start ≤ s) × (s ≤ last) × (origin (neg_ℤ delta) s ≡ moved delta s) × (origin (neg_ℤ delta) s - moved delta start ≡ s - start)
back_hits (pos zero) start last s stays_start stays_last le low high back = grind (arith, nat_tests)
back_hits (pos (suc m)) start last s stays_start stays_last le low high back = grind (arith, nat_tests)
back_hits (negsuc m) start last s stays_start stays_last le low high back = grind (arith, nat_tests)

record LandsParts (s : Shift) (p : ℕ → Bool) (c : ℕ) : Type 0 where
  low : s.first ≤ origin s.delta c
  high : origin s.delta c ≤ s.last
  on : ((origin s.delta c - s.first) % s.modulo == 0) ≡ true
  passes : p (origin s.delta c) ≡ true
  back : moved s.delta (origin s.delta c) ≡ c

lands_parts : (s : Shift) (p : ℕ → Bool) (c : ℕ) → maps_to s p c ≡ true → LandsParts s p c
unfolding maps_to
lands_parts s p c h = record {
  low = grind (arith, nat_tests, h);
  high = grind (arith, nat_tests, h);
  on = grind (arith, nat_tests, h);
  passes = grind (arith, nat_tests, h);
  back = grind (arith, nat_tests, h);
}

backward_gives : (mapping : FoldEntry) (p : ℕ → Bool) (x : ℕ) → IsGoodMapping mapping → maps_to (backward mapping) p x ≡ true → (is_in_mapping mapping x ≡ true) ×
    (p (mapped_in_mapping mapping x) ≡ true)
backward_gives mapping p x good h =
    let parts = lands_parts (backward mapping) p x h in
    let ends = good_start mapping good in
    let hits = back_hits mapping.delta mapping.start (mapping.start + mapping.length - 1) x ends.0 ends.1
    (omega (arith, good.nonempty)) parts.low parts.high parts.back in
    let on : ((x - mapping.start) % mapping.modulo == 0) ≡ true = subst (λ (k : ℕ). (k % mapping.modulo == 0) ≡ true) hits.3 parts.on in
    let passes : p (moved mapping.delta x) ≡ true = subst (λ (k : ℕ). p k ≡ true) hits.2 parts.passes in
    (in_mapping_from mapping x good hits.0 hits.1, rw on passes)
  where
    in_mapping_from : (mapping : FoldEntry) (x : ℕ) → IsGoodMapping mapping → mapping.start ≤ x → x ≤ mapping.start + mapping.length - 1 → is_in_mapping mapping x ≡ true
    in_mapping_from mapping x good low high = grind (arith, nat_tests, good.nonempty)

-- ---- all entries

abbrev pub AreGoodMappings : List FoldEntry → Type 0
AreGoodMappings [] = Unit {0}
AreGoodMappings (mapping ∷ mappings) = IsGoodMapping mapping × AreGoodMappings mappings

pub good_mappings : (mappings : List FoldEntry) → IsTrue (are_targets_in_range mappings) → All (λ mapping. 1 ≤ mapping.length) mappings → AreGoodMappings mappings
good_mappings [] targets nonempty = tt
good_mappings (mapping ∷ mappings) targets nonempty = (
  record { nonempty = All-head (λ (r : FoldEntry). 1 ≤ r.length) mapping mappings nonempty; target = grind (arith, nat_tests, targets) },
  good_mappings mappings (grind (arith, nat_tests, targets)) (All-tail (λ (r : FoldEntry). 1 ≤ r.length) mapping mappings nonempty),
)

-- a canonical form that the first entry determines, and one that a later entry determines
mapped_here : (mapping : FoldEntry) (mappings : List FoldEntry) (x : ℕ) → is_in_mapping mapping x ≡ true → mapped (mapping ∷ mappings) x ≡ mapped_in_mapping mapping x
unfolding mapped
mapped_here mapping mappings x e = rw e

mapped_later : (mapping : FoldEntry) (mappings : List FoldEntry) (x : ℕ) → is_in_mapping mapping x ≡ false → mapped (mapping ∷ mappings) x ≡ mapped mappings x
unfolding mapped
mapped_later mapping mappings x e = rw e

past_mapping : (mapping : FoldEntry) (x : ℕ) → mapping.start + mapping.length ≤ x → is_in_mapping mapping x ≡ false
past_mapping mapping x le = grind (arith, nat_tests)

mappings_forward_gives : (low : ℕ) (mappings : List FoldEntry) (p : ℕ → Bool) (c : ℕ) → IsTrue (is_in_order_from low mappings) → AreGoodMappings mappings →
    maps_to_by forward mappings p c ≡ true →
    (x : ℕ) × (low ≤ x) × (mapped mappings x ≡ c) × (p x ≡ true)
unfolding maps_to_by
mappings_forward_gives low [] p c order good h = let no : false ≡ true = h in cc
mappings_forward_gives low (mapping ∷ mappings) p c order good h =
    let parts = order_parts low mapping mappings order in
    by_mapping (maps_to (forward mapping) p c) refl h parts.above (mappings_forward_gives (mapping.start + mapping.length) mappings p c parts.rest good.1)
  where
    by_mapping : (b : Bool) → maps_to (forward mapping) p c ≡ b → (b || list_any (λ r. maps_to (forward r) p c) mappings) ≡ true → low ≤ mapping.start →
        (list_any (λ r. maps_to (forward r) p c) mappings ≡ true → (x : ℕ) × (mapping.start + mapping.length ≤ x) × (mapped mappings x ≡ c) × (p x ≡ true)) →
        (x : ℕ) × (low ≤ x) × (mapped (mapping ∷ mappings) x ≡ c) × (p x ≡ true)
    by_mapping true here h above later =
        let found = forward_gives mapping p c good.0 here in
        (found.0, omega (arith, (in_mapping_bounds mapping found.0 found.1).0, above), mapped_here mapping mappings found.0 found.1 ∙ found.2, found.3)
    by_mapping false here h above later =
        let found = later h in
        (found.0, omega (arith, found.1, above), mapped_later mapping mappings found.0 (past_mapping mapping found.0 found.1) ∙ found.2, found.3)

mappings_forward_from : (mappings : List FoldEntry) (p : ℕ → Bool) (x : ℕ) → AreGoodMappings mappings → mapped mappings x ≢ x → p x ≡ true →
    maps_to_by forward mappings p (mapped mappings x) ≡ true
unfolding maps_to_by mapped
mappings_forward_from [] p x good other passes = absurd (other refl)
mappings_forward_from (mapping ∷ mappings) p x good other passes = by_mapping (is_in_mapping mapping x) refl
    (λ ne. mappings_forward_from mappings p x good.1 ne passes) other
  where
    by_mapping : (b : Bool) → is_in_mapping mapping x ≡ b → (mapped mappings x ≢ x → maps_to_by forward mappings p (mapped mappings x) ≡ true) →
        cond b (mapped_in_mapping mapping x) (mapped mappings x) ≢ x →
        (maps_to (forward mapping) p (cond b (mapped_in_mapping mapping x) (mapped mappings x)) || list_any
        (λ r. maps_to (forward r) p (cond b (mapped_in_mapping mapping x) (mapped mappings x))) mappings) ≡ true
    by_mapping true e later ne = rw (forward_from mapping p x good.0 e ne passes)
    by_mapping false e later ne = rw (later ne) (or-true (maps_to (forward mapping) p (mapped mappings x)))

mappings_backward_gives : (low : ℕ) (mappings : List FoldEntry) (p : ℕ → Bool) (x : ℕ) → IsTrue (is_in_order_from low mappings) → AreGoodMappings mappings →
    maps_to_by backward mappings p x ≡ true →
    (low ≤ x) × (p (mapped mappings x) ≡ true)
unfolding maps_to_by
mappings_backward_gives low [] p x order good h = let no : false ≡ true = h in cc
mappings_backward_gives low (mapping ∷ mappings) p x order good h =
    let parts = order_parts low mapping mappings order in
    by_mapping (maps_to (backward mapping) p x) refl h parts.above (mappings_backward_gives (mapping.start + mapping.length) mappings p x parts.rest good.1)
  where
    by_mapping : (b : Bool) → maps_to (backward mapping) p x ≡ b → (b || list_any (λ r. maps_to (backward r) p x) mappings) ≡ true → low ≤ mapping.start →
        (list_any (λ r. maps_to (backward r) p x) mappings ≡ true → (mapping.start + mapping.length ≤ x) × (p (mapped mappings x) ≡ true)) → (low ≤ x) ×
        (p (mapped (mapping ∷ mappings) x) ≡ true)
    by_mapping true here h above later =
        let found = backward_gives mapping p x good.0 here in
        (omega (arith, (in_mapping_bounds mapping x found.0).0, above), ap p (mapped_here mapping mappings x found.0) ∙ found.1)
    by_mapping false here h above later =
        let found = later h in
        (omega (arith, found.0, above), ap p (mapped_later mapping mappings x (past_mapping mapping x found.0)) ∙ found.1)

mappings_backward_from : (mappings : List FoldEntry) (p : ℕ → Bool) (x : ℕ) → AreGoodMappings mappings → mapped mappings x ≢ x → p (mapped mappings x) ≡ true →
    maps_to_by backward mappings p x ≡ true
unfolding maps_to_by mapped
mappings_backward_from [] p x good other passes = absurd (other refl)
mappings_backward_from (mapping ∷ mappings) p x good other passes = by_mapping (is_in_mapping mapping x) refl (mappings_backward_from mappings p x good.1) other passes
  where
    by_mapping : (b : Bool) → is_in_mapping mapping x ≡ b → (mapped mappings x ≢ x → p (mapped mappings x) ≡ true → maps_to_by backward mappings p x ≡ true) →
        cond b (mapped_in_mapping mapping x) (mapped mappings x) ≢ x → p (cond b (mapped_in_mapping mapping x) (mapped mappings x)) ≡ true →
        (maps_to (backward mapping) p x || list_any (λ r. maps_to (backward r) p x) mappings) ≡ true
    by_mapping true e later ne passes' = rw (backward_from mapping p x good.0 e ne passes')
    by_mapping false e later ne passes' = rw (later ne passes') (or-true (maps_to (backward mapping) p x))

-- ---- the closure

list_any_from : (q : ℕ → Bool) (xs : List ℕ) (m : ℕ) → lists xs m ≡ true → q m ≡ true → list_any q xs ≡ true
list_any_from q [] m listed h = let no : false ≡ true = listed in cc
list_any_from q (x ∷ xs) m listed h = elim (cases_eq x m) [
  | inl same ↦ (let here : q x ≡ true = ap q same ∙ h in rw here)
  | inr other ↦ rw (list_any_from q xs m (lists-past x xs m other listed) h) (or-true (q x))
]

list_any_gives : (q : ℕ → Bool) (xs : List ℕ) → list_any q xs ≡ true → (m : ℕ) × (lists xs m ≡ true) × (q m ≡ true)
list_any_gives q [] h = let no : false ≡ true = h in cc
list_any_gives q (x ∷ xs) h = by_test (q x) refl h (list_any_gives q xs)
  where
    by_test : (b : Bool) → q x ≡ b → (b || list_any q xs) ≡ true → (list_any q xs ≡ true → (m : ℕ) × (lists xs m ≡ true) × (q m ≡ true)) →
        (m : ℕ) × (lists (x ∷ xs) m ≡ true) × (q m ≡ true)
    by_test true e h later = (x, lists-head x xs, e)
    by_test false e h later = let found = later h in (found.0, lists-tail x xs found.0 found.1, found.2)

-- some member of a set passes a test
abbrev some_member : (ℕ → Bool) → List Bounds → Bool
some_member q set = list_any (λ iv. list_any q (code_points iv)) set

some_member_from : (q : ℕ → Bool) (set : List Bounds) (m : ℕ) → is_member set m ≡ true → q m ≡ true → some_member q set ≡ true
some_member_from q [] m member h = let no : false ≡ true = sym (is_member-nil m) ∙ member in cc
some_member_from q (iv ∷ ivs) m member h = by_test (is_within iv m) refl (sym (is_member-cons iv ivs m) ∙ member)
    (λ later. some_member_from q ivs m later h)
  where
    by_test : (b : Bool) → is_within iv m ≡ b → (b || is_member ivs m) ≡ true → (is_member ivs m ≡ true → some_member q ivs ≡ true) →
        (list_any q (code_points iv) || some_member q ivs) ≡ true
    by_test true e t later = rw (list_any_from q (code_points iv) m (lists-interval iv m ∙ e) h)
    by_test false e t later = rw (later t) (or-true (list_any q (code_points iv)))

some_member_gives : (q : ℕ → Bool) (set : List Bounds) → some_member q set ≡ true → (m : ℕ) × (is_member set m ≡ true) × (q m ≡ true)
some_member_gives q [] h = let no : false ≡ true = h in cc
some_member_gives q (iv ∷ ivs) h = by_test (list_any q (code_points iv)) refl h (some_member_gives q ivs)
  where
    by_test : (b : Bool) → list_any q (code_points iv) ≡ b → (b || some_member q ivs) ≡ true →
        (some_member q ivs ≡ true → (m : ℕ) × (is_member ivs m ≡ true) × (q m ≡ true)) → (m : ℕ) × (is_member (iv ∷ ivs) m ≡ true) ×
        (q m ≡ true)
    by_test true e t later =
        let found = list_any_gives q (code_points iv) e in
        let within : is_within iv found.0 ≡ true = sym (lists-interval iv found.0) ∙ found.1 in
        (found.0, is_member-cons iv ivs found.0 ∙ rw within, found.2)
    by_test false e t later =
        let found = later t in
        (found.0, is_member-cons iv ivs found.0 ∙ rw found.1 (or-true (is_within iv found.0)), found.2)

pub closure_from : (t : Table) (set : List Bounds) (m c : ℕ) → c ≤ code_point_max → is_member set m ≡ true → t.fold m ≡ t.fold c →
    is_in_closure t set c ≡ true
unfolding is_in_closure
closure_from t set m c le member same =
    let some = some_member_from (λ x. t.fold x == t.fold c) set m member (eq-eqb (t.fold m) (t.fold c) same) in
    let small : nat_le c code_point_max ≡ true = grind (arith, nat_tests) in
    rw (small, some)

pub closure_gives : (t : Table) (set : List Bounds) (c : ℕ) → is_in_closure t set c ≡ true → (c ≤ code_point_max) × (m : ℕ) ×
    (is_member set m ≡ true) × (t.fold m ≡ t.fold c)
unfolding is_in_closure
closure_gives t set c h =
    let small : c ≤ code_point_max = grind (arith, nat_tests, h) in
    let some : some_member (λ x. t.fold x == t.fold c) set ≡ true = grind (arith, nat_tests, h) in
    let found = some_member_gives (λ x. t.fold x == t.fold c) set some in
    (small, found.0, found.1, eqb-true (t.fold found.0) (t.fold c) found.2)

-- a set with the canonical forms of another set, and then with the code points that are mapped to them
pub record ClosesOver (mappings : List FoldEntry) (set : List Bounds) (folded closed : ℕ → Bool) : Type 0 where
  pub in_order : IsTrue (is_in_order mappings)
  pub good : AreGoodMappings mappings
  pub idempotent : IsIdempotent (mapped mappings)
  pub targets : (c : ℕ) → folded c ≡ (is_member set c || maps_to_by forward mappings (is_member set) c)
  pub sources : (c : ℕ) → closed c ≡ (folded c || maps_to_by backward mappings folded c)

either : (x y z : Bool) → x ≡ (y || z) → x ≡ true → (y ≡ true) ⊎ (z ≡ true)
either x true z is h = inl refl
either x false z is h = inr (sym is ∙ h)

folded_gives : (mappings : List FoldEntry) (set : List Bounds) (folded closed : ℕ → Bool) (c : ℕ) → ClosesOver mappings set folded closed →
    folded c ≡ true →
    (m : ℕ) × (is_member set m ≡ true) × (mapped mappings m ≡ mapped mappings c)
folded_gives mappings set folded closed c over h = elim (either (folded c) (is_member set c) (maps_to_by forward mappings (is_member set) c)
    (over.targets c) h) [
      | inl member ↦ (c, member, refl)
      | inr maps_to ↦ (
          let found = mappings_forward_gives 0 mappings (is_member set) c over.in_order over.good maps_to in
          (found.0, found.3, sym (over.idempotent found.0) ∙ ap (mapped mappings) found.2))
    ]

closed_gives : (mappings : List FoldEntry) (set : List Bounds) (folded closed : ℕ → Bool) (c : ℕ) → ClosesOver mappings set folded closed →
    closed c ≡ true →
    (m : ℕ) × (is_member set m ≡ true) × (mapped mappings m ≡ mapped mappings c)
closed_gives mappings set folded closed c over h = elim (either (closed c) (folded c) (maps_to_by backward mappings folded c) (over.sources c) h) [
  | inl in_folded ↦ folded_gives mappings set folded closed c over in_folded
  | inr maps_to ↦ (
      let found = mappings_backward_gives 0 mappings folded c over.in_order over.good maps_to in
      let from = folded_gives mappings set folded closed (mapped mappings c) over found.1 in
      (from.0, from.1, from.2 ∙ over.idempotent c))
]

mapped_folded : (mappings : List FoldEntry) (set : List Bounds) (folded closed : ℕ → Bool) (m : ℕ) → ClosesOver mappings set folded closed →
    is_member set m ≡ true → folded (mapped mappings m) ≡ true
mapped_folded mappings set folded closed m over member = elim (cases_eq (mapped mappings m) m) [
  | inl stays ↦ over.targets (mapped mappings m) ∙ (let here : is_member set (mapped mappings m) ≡ true = ap (is_member set) stays ∙ member in rw here)
  | inr other ↦ over.targets (mapped mappings m) ∙ rw (mappings_forward_from mappings (is_member set) m over.good other member)
      (or-true (is_member set (mapped mappings m)))
]

closed_from : (mappings : List FoldEntry) (set : List Bounds) (folded closed : ℕ → Bool) (m c : ℕ) → ClosesOver mappings set folded closed →
    is_member set m ≡ true → mapped mappings m ≡ mapped mappings c → closed c ≡ true
closed_from mappings set folded closed m c over member same =
    let there : folded (mapped mappings c) ≡ true = ap folded (sym same) ∙ mapped_folded mappings set folded closed m over member in
    elim (cases_eq (mapped mappings c) c) [
      | inl stays ↦ over.sources c ∙ (let here : folded c ≡ true = ap folded (sym stays) ∙ there in rw here)
      | inr other ↦ over.sources c ∙ rw (mappings_backward_from mappings folded c over.good other there) (or-true (folded c))
    ]

pub closure_is : (t : Table) (mappings : List FoldEntry) (set : List Bounds) (folded closed : ℕ → Bool) → ((x : ℕ) → t.fold x ≡ mapped mappings x) →
    ClosesOver mappings set folded closed →
    ((c : ℕ) → closed c ≡ true → c ≤ code_point_max) → (c : ℕ) → closed c ≡ is_in_closure t set c
closure_is t mappings set folded closed same over bound c = same_tests (closed c) (is_in_closure t set c)
    (λ h. (let found = closed_gives mappings set folded closed c over h in
    closure_from t set found.0 c (bound c h) found.1 (same found.0 ∙ found.2 ∙ sym (same c))))
    (λ h. (let found = closure_gives t set c h in
    closed_from mappings set folded closed found.1 c over found.2 (sym (same found.1) ∙ found.3 ∙ same c)))

-- the closure of a closure is itself
pub closure_twice : (t : Table) (set closed : List Bounds) → ((c : ℕ) → is_member closed c ≡ is_in_closure t set c) → (c : ℕ) →
    is_in_closure t closed c ≡ is_member closed c
closure_twice t set closed is c = same_tests (is_in_closure t closed c) (is_member closed c)
    (λ h. (let found = closure_gives t closed c h in
    let first = closure_gives t set found.1 (sym (is found.1) ∙ found.2) in
    is c ∙ closure_from t set first.1 c found.0 first.2 (first.3 ∙ found.3)))
    (λ h. (let found = closure_gives t set c (sym (is c) ∙ h) in
    closure_from t closed c c found.0 h refl))
