-- Parts of a table that are valid, by tests that can be computed.
use Rattle.std.proofs.Common.{◌≡◌, ℕ, zero, suc, ◌+◌, ◌^◌, ◌≤◌, Bool, true, false, ◌&&◌, nat_lt, nat_le, ◌==◌, IsTrue, List, [], ◌∷◌, ◌++◌, length, map, cond, filter, All, inl, inr, refl, sym, ap, ap₂, subst, ◌∙◌, arith}
use Rattle.std.specs.List.{list_all, flat_map}
use Rattle.std.proofs.lemmas.Bool.{cases_lt, eqb-true, and_parts}
use Rattle.std.proofs.lemmas.Bool.Decides.{nat_tests}
use Rattle.std.proofs.lemmas.List.{map-append}
use Rattle.std.proofs.lemmas.List.Elements.{All-head, All-tail, filter-append}
use Rattle.std.proofs.lemmas.List.Sums.{AllPass-from_list_all, count_by-le-length, length-filter}
use Rattle.regress_base.specs.Intervals.{IsCanonical}
use Rattle.regress_base.specs.Listing.{lists}
use Rattle.regress_base.specs.Table.{HasWordAscii, HasCanonicalSets, HasStrings}
use Rattle.regress_base.proofs.lemmas.Listings.{All-from_lists, ascending_above, lists-filter, lists-run}
use Rattle.regress_properties.proofs.lemmas.Properties.{id_start-canonical, id_continue-canonical, id_start-ascii, id_continue-ascii, general_category-canonical, script-canonical, script_extensions-canonical, binary-canonical, strings-valid}
use Rattle.regress_unicode.specs.FoldEntries.{FoldEntry, is_in_mapping, mapped_in_mapping, mapped}
use Rattle.regress_unicode.specs.ValidEntries.{is_in_order_from, is_in_order, are_targets_in_range, AreValidEntries, IsSound}
use Rattle.regress_unicode.specs.Moves.{run, codes, moves, mapped_code_points, targets, count_of}
use Rattle.regress_unicode.specs.Parts.{Parts, with_unicode_properties}
use Rattle.regress_unicode.proofs.ListLemmas.{order_parts}
use Rattle.regress_unicode.proofs.CaseMapLemmas.{All-lists, ascending_codes, case_map, idempotent_from_movers, lists-map, small_from_targets}

-- ---- the results of the mapping, entry by entry

abbrev pub targets_of_mapping : FoldEntry → List ℕ
targets_of_mapping mapping = map (mapped_in_mapping mapping) (filter (moves (mapped_in_mapping mapping)) (run mapping))

same_targets : (f g : ℕ → ℕ) (xs : List ℕ) → All (λ c. f c ≡ g c) xs → map f (filter (moves f) xs) ≡ map g (filter (moves g) xs)
same_targets f g [] h = refl
same_targets f g (x ∷ xs) h =
    let rest = same_targets f g xs (All-tail (λ c. f c ≡ g c) x xs h) in
    rw (All-head (λ c. f c ≡ g c) x xs h) (by_test (moves g x) rest)
  where
    by_test : (b : Bool) → map f (filter (moves f) xs) ≡ map g (filter (moves g) xs) →
        map f (cond b (x ∷ filter (moves f) xs) (filter (moves f) xs)) ≡ map g (cond b (x ∷ filter (moves g) xs) (filter (moves g) xs))
    by_test true rest = ap₂ (λ y ys. y ∷ ys) (All-head (λ c. f c ≡ g c) x xs h) rest
    by_test false rest = rest

-- entries in order have no code point in common, so each determines its own results
targets_by_mappings : (low : ℕ) (mappings : List FoldEntry) → IsTrue (is_in_order_from low mappings) → targets mappings ≡ flat_map targets_of_mapping mappings
unfolding mapped
targets_by_mappings low [] h = refl
targets_by_mappings low (mapping ∷ mappings) h =
    let parts = order_parts low mapping mappings h in
    let f : ℕ → ℕ = mapped (mapping ∷ mappings) in
    let here : All (λ c. f c ≡ mapped_in_mapping mapping c) (run mapping) =
    All-from_lists (λ c. f c ≡ mapped_in_mapping mapping c) (run mapping) (λ c e.
    (let within : is_in_mapping mapping c ≡ true = sym (lists-run mapping.start mapping.length c) ∙ e in rw within)) in
    let later : All (λ c. f c ≡ mapped mappings c) (codes mappings) =
    All-from_lists (λ c. f c ≡ mapped mappings c) (codes mappings) (λ c e.
    (let above = ascending_above (mapping.start + mapping.length) (codes mappings) c (ascending_codes (mapping.start + mapping.length) mappings parts.rest) e in
    let beyond : is_in_mapping mapping c ≡ false = grind (arith, nat_tests, above) in rw beyond)) in
    ap (map f) (filter-append (moves f) (run mapping) (codes mappings))
    ∙ map-append f (filter (moves f) (run mapping)) (filter (moves f) (codes mappings))
    ∙ ap₂ (λ xs ys. xs ++ ys) (same_targets f (mapped_in_mapping mapping) (run mapping) here)
    (same_targets f (mapped mappings) (codes mappings) later ∙ targets_by_mappings (mapping.start + mapping.length) mappings parts.rest)

-- ---- results that are mapped to themselves, no four of which are equal, by bisection

pub record AreSettled (mappings : List FoldEntry) (xs : List ℕ) : Type 0 where
  pub own : (d : ℕ) → lists xs d ≡ true → mapped mappings d ≡ d
  pub few : (d : ℕ) → count_of d xs ≤ 3

-- entries without the number in their range can be dropped
mapped_kept : (q : FoldEntry → Bool) (c : ℕ) → ((mapping : FoldEntry) → is_in_mapping mapping c ≡ true → q mapping ≡ true) → (mappings : List FoldEntry) →
    mapped (filter q mappings) c ≡ mapped mappings c
unfolding mapped
mapped_kept q c h [] = refl
mapped_kept q c h (mapping ∷ mappings) = by_tests (q mapping) (is_in_mapping mapping c) refl (h mapping) (mapped_kept q c h mappings)
  where
    by_tests : (keep within : Bool) → is_in_mapping mapping c ≡ within → (is_in_mapping mapping c ≡ true → keep ≡ true) →
        mapped (filter q mappings) c ≡ mapped mappings c →
        mapped (cond keep (mapping ∷ filter q mappings) (filter q mappings)) c ≡ cond within (mapped_in_mapping mapping c) (mapped mappings c)
    by_tests true true e kept rest = rw e
    by_tests true false e kept rest = rw e rest
    by_tests false true e kept rest = let no : false ≡ true = kept e in cc
    by_tests false false e kept rest = rest

count_kept : (p : ℕ → Bool) (d : ℕ) → p d ≡ true → (xs : List ℕ) → count_of d (filter p xs) ≡ count_of d xs
count_kept p d h [] = refl
count_kept p d h (x ∷ xs) = by_tests (p x) (x == d) refl refl (count_kept p d h xs)
  where
    by_tests : (keep is : Bool) → p x ≡ keep → (x == d) ≡ is → count_of d (filter p xs) ≡ count_of d xs →
        count_of d (cond keep (x ∷ filter p xs) (filter p xs)) ≡ length (cond is (x ∷ filter (λ y. y == d) xs) (filter (λ y. y == d) xs))
    by_tests true true k e rest = rw e (ap suc rest)
    by_tests true false k e rest = rw e rest
    by_tests false true k e rest = let no : false ≡ true = sym k ∙ ap p (eqb-true x d e) ∙ h in cc
    by_tests false false k e rest = rest

-- at most three results, each mapped to itself
abbrev are_few_own : List FoldEntry → List ℕ → Bool
are_few_own mappings xs = nat_le (length xs) 3 && list_all (λ d. mapped mappings d == d) xs

-- The numbers below a bound and those from it on, each with the entries that can contain them, are split until at most
-- three remain.
abbrev pub are_settled : (halvings low : ℕ) → List FoldEntry → List ℕ → Bool
are_settled zero low mappings xs = are_few_own mappings xs
are_settled (suc k) low mappings xs = elim (nat_le (length xs) 3) [
  | true ↦ are_few_own mappings xs
  | false ↦ (
      let bound : ℕ = low + 2 ^ k in
      are_settled k low (filter (λ mapping. nat_lt mapping.start bound) mappings) (filter (λ x. nat_lt x bound) xs)
      && are_settled k bound (filter (λ mapping. nat_lt bound (mapping.start + mapping.length)) mappings) (filter (λ x. nat_le bound x) xs))
]

settled_few : (mappings : List FoldEntry) (xs : List ℕ) → IsTrue (are_few_own mappings xs) → AreSettled mappings xs
settled_few mappings xs h =
    let parts = and_parts (nat_le (length xs) 3) (list_all (λ d. mapped mappings d == d) xs) h in
    let short : length xs ≤ 3 = grind (arith, nat_tests, parts.0) in
    record {
      own = λ d e. eqb-true (mapped mappings d) d (All-lists (λ x. (mapped mappings x == x) ≡ true) xs d
          (AllPass-from_list_all (λ x. mapped mappings x == x) xs parts.1) e);
      few = λ d. omega (arith, short, length-filter (λ x. x == d) xs, count_by-le-length (λ x. x == d) xs);
    }

-- all numbers are settled if those below a bound and those from it on are
settled_halves : (mappings : List FoldEntry) (xs : List ℕ) (bound : ℕ) →
    AreSettled (filter (λ mapping. nat_lt mapping.start bound) mappings) (filter (λ x. nat_lt x bound) xs) →
    AreSettled (filter (λ mapping. nat_lt bound (mapping.start + mapping.length)) mappings) (filter (λ x. nat_le bound x) xs) → AreSettled mappings xs
settled_halves mappings xs bound low high = record {
  own = λ d e. elim (cases_lt d bound) [
    | inl below ↦ (
        let yes : nat_lt d bound ≡ true = grind (arith, nat_tests, below) in
        let kept = mapped_kept (λ mapping. nat_lt mapping.start bound) d (λ mapping within. grind (arith, nat_tests, below, within)) mappings in
        let listed : (nat_lt d bound && lists xs d) ≡ true = rw (yes, e) in
        sym kept ∙ low.own d (lists-filter (λ x. nat_lt x bound) xs d ∙ listed))
    | inr above ↦ (
        let yes : nat_le bound d ≡ true = grind (arith, nat_tests, above) in
        let kept = mapped_kept (λ mapping. nat_lt bound (mapping.start + mapping.length)) d (λ mapping within. grind (arith, nat_tests, above, within)) mappings in
        let listed : (nat_le bound d && lists xs d) ≡ true = rw (yes, e) in
        sym kept ∙ high.own d (lists-filter (λ x. nat_le bound x) xs d ∙ listed))
  ];
  few = λ d. elim (cases_lt d bound) [
    | inl below ↦ subst (λ (n : ℕ). n ≤ 3) (count_kept (λ x. nat_lt x bound) d (grind (arith, nat_tests, below)) xs) (low.few d)
    | inr above ↦ subst (λ (n : ℕ). n ≤ 3) (count_kept (λ x. nat_le bound x) d (grind (arith, nat_tests, above)) xs) (high.few d)
  ];
}

settled : (halvings low : ℕ) (mappings : List FoldEntry) (xs : List ℕ) → IsTrue (are_settled halvings low mappings xs) → AreSettled mappings xs
settled zero low mappings xs h = settled_few mappings xs h
settled (suc k) low mappings xs h =
    by_length (nat_le (length xs) 3) h (λ t. settled k low _ _ t) (λ t. settled k (low + 2 ^ k) _ _ t)
  where
    bound : ℕ
    bound = low + 2 ^ k

    before : List FoldEntry
    before = filter (λ mapping. nat_lt mapping.start bound) mappings

    after : List FoldEntry
    after = filter (λ mapping. nat_lt bound (mapping.start + mapping.length)) mappings

    halves : Bool
    halves = are_settled k low before (filter (λ x. nat_lt x bound) xs) && are_settled k bound after (filter (λ x. nat_le bound x) xs)

    by_length : (b : Bool) → IsTrue (elim b [ true ↦ are_few_own mappings xs | false ↦ halves ]) →
        (IsTrue (are_settled k low before (filter (λ x. nat_lt x bound) xs)) → AreSettled before (filter (λ x. nat_lt x bound) xs)) →
        (IsTrue (are_settled k bound after (filter (λ x. nat_le bound x) xs)) → AreSettled after (filter (λ x. nat_le bound x) xs)) →
        AreSettled mappings xs
    by_length true t low_settled high_settled = settled_few mappings xs t
    by_length false t low_settled high_settled =
        let parts = and_parts (are_settled k low before (filter (λ x. nat_lt x bound) xs)) _ t in
        settled_halves mappings xs bound (low_settled parts.0) (high_settled parts.1)

-- all results are below 2 ^ 21
pub sound_mappings : (mappings : List FoldEntry) → IsTrue (is_in_order mappings) → IsTrue (are_targets_in_range mappings) →
    IsTrue (are_settled 21 0 mappings (flat_map targets_of_mapping mappings)) → AreValidEntries mappings
sound_mappings mappings order range h =
    let targets_settled : AreSettled mappings (targets mappings) =
    subst (AreSettled mappings) (sym (targets_by_mappings 0 mappings order)) (settled 21 0 mappings (flat_map targets_of_mapping mappings) h) in
    record {
      in_order = order;
      in_range = range;
      idempotent = idempotent_from_movers mappings (λ c e. targets_settled.own (mapped mappings c)
          (lists-map (mapped mappings) (mapped_code_points (mapped mappings) mappings) c e));
      small_classes = small_from_targets mappings order targets_settled.few;
    }

-- ---- all parts

pub sound_from : (parts : Parts) → AreValidEntries parts.folds → AreValidEntries parts.uppers →
    IsCanonical parts.id_start → IsCanonical parts.id_continue → HasWordAscii parts.id_start → HasWordAscii parts.id_continue →
    HasCanonicalSets parts.general_category → HasCanonicalSets parts.script → HasCanonicalSets parts.script_extensions →
    HasCanonicalSets parts.binary → HasStrings parts.strings → IsSound parts
sound_from parts folds uppers id_start id_continue start_ascii continue_ascii general_category script script_extensions binary strings = record {
  folds = folds;
  uppers = uppers;
  lawful = record {
    fold = case_map parts.folds folds;
    uppercase = case_map parts.uppers uppers;
    id_start = id_start;
    id_continue = id_continue;
    id_start_ascii = start_ascii;
    id_continue_ascii = continue_ascii;
    general_category = general_category;
    script = script;
    script_extensions = script_extensions;
    binary = binary;
    strings = strings;
  };
}

-- the properties of Unicode are valid
pub unicode_sound : (folds uppers : List FoldEntry) → AreValidEntries folds → AreValidEntries uppers → IsSound (with_unicode_properties folds uppers)
unicode_sound folds uppers valid_folds valid_uppers =
    sound_from (with_unicode_properties folds uppers) valid_folds valid_uppers id_start-canonical id_continue-canonical id_start-ascii id_continue-ascii
    general_category-canonical script-canonical script_extensions-canonical binary-canonical strings-valid
