-- The table of all of Unicode has the case data of Unicode, by tests of the bounds of its entries.
use Rattle.std.proofs.Common.{◌≡◌, ℕ, ℤ, pos, negsuc, ◌+◌, ◌-◌, ◌%◌, ◌≤◌, Bool, true, false, not, ◌&&◌, ◌||◌, nat_le, nat_lt, ◌==◌, cond, ◌⊎◌, inl, inr, List, [], ◌∷◌, refl, sym, ap, ◌∙◌, arith}
use Rattle.std.specs.List.{list_all}
use Rattle.std.proofs.lemmas.Bool.{and_parts, eq-eqb, eqb-true, false≢true}
use Rattle.std.proofs.lemmas.Bool.Decides.{nat_tests}
use Rattle.regress_base.specs.Classes.{word_characters}
use Rattle.regress_base.specs.Intervals.{Bounds, is_member, is_within}
use Rattle.regress_base.specs.Listing.{lists, code_points}
use Rattle.regress_base.proofs.lemmas.Listings.{lists-interval}
use Rattle.regress_properties.specs.Properties.{unicode_strings}
use Rattle.regress_unicode.specs.FoldEntries.{FoldEntry, moved, is_in_mapping, mapped_in_mapping, mapped}
use Rattle.regress_ucd.specs.UnicodeTable.{unicode_parts, unicode_table}
use Rattle.regress_ucd.proofs.lemmas.ValidTable.{unicode_valid}
use Rattle.regress_ecma.specs.Differences.{HasCaseDataOfUnicode, HasVariantsIn, unlike, cased_beyond_ascii, cased}
use Rattle.regress_ecma.specs.Compared.{IsOfUnicode}
use Rattle.regress_ecma.specs.GroupNames.{HasIdentifiers}
use Rattle.regress_ecma.specs.ClassSetExpressions.{HasPropertiesOfStrings}
use Rattle.regress_ecma.proofs.Outside.{is_outside, is_inside, inside, carried}
use Rattle.regress_ecma.proofs.Sets.{same_truth}

-- ---- entries

-- the code points of an entry, and what its delta maps them to
abbrev sources : FoldEntry → Bounds
sources entry = record { first = entry.start; last = entry.start + entry.length - 1 }

abbrev targets : FoldEntry → Bounds
targets entry = record { first = moved entry.delta entry.start; last = moved entry.delta (entry.start + entry.length - 1) }

moved-increases : (d : ℤ) (a b : ℕ) → a ≤ b → moved d a ≤ moved d b
moved-increases (pos n) a b le = omega arith
moved-increases (negsuc n) a b le = omega arith

-- an entry that passes the test maps the code point
record IsMovedBy (q : FoldEntry → Bool) (c to : ℕ) (entry : FoldEntry) : Type 0 where
  passes : q entry ≡ true
  from_source : is_within (sources entry) c ≡ true
  to_target : is_within (targets entry) to ≡ true

moved_by : (q : FoldEntry → Bool) (c : ℕ) (entry : FoldEntry) → q entry ≡ true → is_in_mapping entry c ≡ true →
    IsMovedBy q c (moved entry.delta c) entry
unfolding is_within
moved_by q c entry passes within =
    let above : entry.start ≤ c = grind (arith, nat_tests, within) in
    let below : c ≤ entry.start + entry.length - 1 = grind (arith, nat_tests, within) in
    let low = moved-increases entry.delta entry.start c above in
    let high = moved-increases entry.delta c (entry.start + entry.length - 1) below in
    record { passes = passes; from_source = grind (arith, nat_tests, above, below); to_target = grind (arith, nat_tests, low, high) }

-- A code point stays, or an entry maps it.
stays_or_moves : (q : FoldEntry → Bool) (entries : List FoldEntry) → list_all q entries ≡ true → (c : ℕ) →
    (mapped entries c ≡ c) ⊎ ((entry : FoldEntry) × IsMovedBy q c (mapped entries c) entry)
unfolding mapped
stays_or_moves q [] h c = inl refl
stays_or_moves q (entry ∷ entries) h c =
    let parts = and_parts (q entry) (list_all q entries) h in
    by_entry (is_in_mapping entry c) refl parts.0 (stays_or_moves q entries parts.1 c)
  where
    by_entry : (b : Bool) → is_in_mapping entry c ≡ b → q entry ≡ true →
        (mapped entries c ≡ c) ⊎ ((entry : FoldEntry) × IsMovedBy q c (mapped entries c) entry) →
        (cond b (mapped_in_mapping entry c) (mapped entries c) ≡ c)
        ⊎ ((other : FoldEntry) × IsMovedBy q c (cond b (mapped_in_mapping entry c) (mapped entries c)) other)
    by_entry false e passes rest = rest
    by_entry true e passes rest = by_modulo ((c - entry.start) % entry.modulo == 0)
      where
        by_modulo : (b : Bool) → (cond b (moved entry.delta c) c ≡ c) ⊎ ((other : FoldEntry) × IsMovedBy q c (cond b (moved entry.delta c) c) other)
        by_modulo true = inr (entry, moved_by q c entry passes e)
        by_modulo false = inl refl

-- ---- tests of an entry

-- what it maps to ASCII is ASCII
abbrev keeps_above_ascii : FoldEntry → Bool
keeps_above_ascii entry = nat_lt (sources entry).last 128 || nat_le 128 (targets entry).first

-- what it maps into the set is in the set
abbrev comes_from : List Bounds → FoldEntry → Bool
comes_from set entry = is_outside set (targets entry) || is_inside set (sources entry)

-- it maps the members of the set to members
abbrev stays_in : List Bounds → FoldEntry → Bool
stays_in set entry = is_outside set (sources entry) || is_inside set (targets entry)

-- it maps members of the set to members, and no other code point
abbrev moves_in : List Bounds → FoldEntry → Bool
moves_in set entry = is_inside set (sources entry) && is_inside set (targets entry)

-- ---- what follows for all entries

above_ascii : (entries : List FoldEntry) → list_all keeps_above_ascii entries ≡ true → (c : ℕ) → 128 ≤ c → 128 ≤ mapped entries c
unfolding is_within
above_ascii entries h c high = elim (stays_or_moves keeps_above_ascii entries h c) [
  | inl stays ↦ omega (arith, stays, high)
  | inr by ↦ grind (arith, nat_tests, high, by.1.passes, by.1.from_source, by.1.to_target)
]

member_before : (set : List Bounds) (entries : List FoldEntry) → list_all (comes_from set) entries ≡ true → (c : ℕ) →
    is_member set (mapped entries c) ≡ true → is_member set c ≡ true
member_before set entries h c member = elim (stays_or_moves (comes_from set) entries h c) [
  | inl stays ↦ sym (ap (is_member set) stays) ∙ member
  | inr by ↦ carried set (targets by.0) (sources by.0) (mapped entries c) c by.1.passes by.1.to_target by.1.from_source member
]

member_after : (set : List Bounds) (entries : List FoldEntry) → list_all (stays_in set) entries ≡ true → (c : ℕ) →
    is_member set c ≡ true → is_member set (mapped entries c) ≡ true
member_after set entries h c member = elim (stays_or_moves (stays_in set) entries h c) [
  | inl stays ↦ ap (is_member set) stays ∙ member
  | inr by ↦ carried set (sources by.0) (targets by.0) c (mapped entries c) by.1.passes by.1.from_source by.1.to_target member
]

variants : (set : List Bounds) (entries : List FoldEntry) → list_all (moves_in set) entries ≡ true → HasVariantsIn set (mapped entries)
variants set entries h a b none same =
    let own : mapped entries a ≡ a = elim (stays_or_moves (moves_in set) entries h a) [
      | inl stays ↦ stays
      | inr by ↦ absurd (false≢true (sym none
          ∙ inside set (sources by.0) a (and_parts _ (is_inside set (targets by.0)) by.1.passes).0 by.1.from_source))
    ] in
    elim (stays_or_moves (moves_in set) entries h b) [
      | inl stays ↦ sym stays ∙ same ∙ own
      | inr by ↦ absurd (false≢true (sym none ∙ ap (is_member set) (sym (same ∙ own))
          ∙ inside set (targets by.0) (mapped entries b) (and_parts (is_inside set (sources by.0)) _ by.1.passes).1 by.1.to_target))
    ]

-- ---- characters with the same variants in both maps

in_all : (q : ℕ → Bool) (xs : List ℕ) (m : ℕ) → list_all q xs ≡ true → lists xs m ≡ true → q m ≡ true
in_all q [] m h member = absurd (false≢true member)
in_all q (x ∷ xs) m h member =
    let parts = and_parts (q x) (list_all q xs) h in
    by_test (x == m) refl member (in_all q xs m parts.1)
  where
    by_test : (b : Bool) → (x == m) ≡ b → (b || lists xs m) ≡ true → (lists xs m ≡ true → q m ≡ true) → q m ≡ true
    by_test true e t later = sym (ap q (eqb-true x m e)) ∙ (and_parts (q x) (list_all q xs) h).0
    by_test false e t later = later t

-- f maps the members of `unlike` to members; it maps each other code point to one that is no member, and that has the same
-- value of g.
abbrev is_kept : (f g : ℕ → ℕ) → ℕ → Bool
is_kept f g c = cond (is_member unlike c) (is_member unlike (f c)) (not (is_member unlike (f c)) && (g (f c) == g c))

abbrev keeps_each : (f g : ℕ → ℕ) → FoldEntry → Bool
keeps_each f g entry = list_all (is_kept f g) (code_points (sources entry))

-- It is enough to test the code points of the entries.
kept : (entries : List FoldEntry) (g : ℕ → ℕ) → list_all (keeps_each (mapped entries) g) entries ≡ true → (c : ℕ) →
    is_kept (mapped entries) g c ≡ true
kept entries g h c = elim (stays_or_moves (keeps_each (mapped entries) g) entries h c) [
  | inl stays ↦ rw stays (itself (is_member unlike c))
  | inr by ↦ in_all (is_kept (mapped entries) g) (code_points (sources by.0)) c by.1.passes
      (lists-interval (sources by.0) c ∙ by.1.from_source)
]
  where
    itself : (b : Bool) → cond b b (not b && (g c == g c)) ≡ true
    itself true = refl
    itself false = eq-eqb _ _ refl

module _ (f g : ℕ → ℕ) (keeps : (c : ℕ) → is_kept f g c ≡ true) where
  kept_outside : (c : ℕ) → is_member unlike c ≡ false → (is_member unlike (f c) ≡ false) × (g (f c) ≡ g c)
  kept_outside c none = by_tests (is_member unlike (f c)) (g (f c) == g c) refl refl (rw none at (keeps c))
    where
      by_tests : (m t : Bool) → is_member unlike (f c) ≡ m → (g (f c) == g c) ≡ t → (not m && t) ≡ true →
          (is_member unlike (f c) ≡ false) × (g (f c) ≡ g c)
      by_tests true t e same h = absurd (false≢true h)
      by_tests false t e same h = (e, eqb-true _ _ (same ∙ h))

  outside_before : (c : ℕ) → is_member unlike (f c) ≡ false → is_member unlike c ≡ false
  outside_before c none = by_test (is_member unlike c) refl
    where
      by_test : (b : Bool) → is_member unlike c ≡ b → is_member unlike c ≡ false
      by_test false e = e
      by_test true e = absurd (false≢true (sym none ∙ (rw e at (keeps c))))

  same_variants : (a b : ℕ) → is_member unlike a ≡ false → f b ≡ f a → g b ≡ g a
  same_variants a b none same =
      let of_a = kept_outside a none in
      let of_b = kept_outside b (outside_before b (ap (is_member unlike) same ∙ of_a.0)) in
      sym of_b.1 ∙ ap g same ∙ of_a.1

-- ---- the table of all of Unicode

kept_folds : list_all (keeps_each (mapped unicode_parts.folds) (mapped unicode_parts.uppers)) unicode_parts.folds ≡ true
unfolding unicode_parts mapped is_member is_within unlike
kept_folds = refl

kept_uppers : list_all (keeps_each (mapped unicode_parts.uppers) (mapped unicode_parts.folds)) unicode_parts.uppers ≡ true
unfolding unicode_parts mapped is_member is_within unlike
kept_uppers = refl

unicode_same : (a b : ℕ) → is_member unlike a ≡ false →
    (mapped unicode_parts.uppers b == mapped unicode_parts.uppers a) ≡ (mapped unicode_parts.folds b == mapped unicode_parts.folds a)
unicode_same a b none =
    same_truth _ _
    (λ h.
    eq-eqb _ _
    (same_variants (mapped unicode_parts.uppers) (mapped unicode_parts.folds)
    (kept unicode_parts.uppers (mapped unicode_parts.folds) kept_uppers) a b none (eqb-true _ _ h)))
    (λ h.
    eq-eqb _ _
    (same_variants (mapped unicode_parts.folds) (mapped unicode_parts.uppers)
    (kept unicode_parts.folds (mapped unicode_parts.uppers) kept_folds) a b none (eqb-true _ _ h)))

pub unicode_case_data : HasCaseDataOfUnicode unicode_table
unfolding unicode_table unicode_parts cased_beyond_ascii
unicode_case_data = record {
  idempotent = unicode_valid.fold.idempotent;
  in_range = unicode_valid.fold.in_range;
  upper_ascii = above_ascii unicode_parts.uppers refl;
  upper_words = member_before word_characters unicode_parts.uppers refl;
  folded_words = member_after word_characters unicode_parts.folds refl;
  folded_variants = variants cased unicode_parts.folds refl;
  upper_variants = variants cased unicode_parts.uppers refl;
  same_variants = unicode_same;
}

pub unicode_data : IsOfUnicode unicode_table
unfolding unicode_table unicode_parts
unicode_data = record {
  maps = unicode_case_data;
  upper_keeps_words = member_after word_characters unicode_parts.uppers refl;
  strings = unicode_valid.strings;
}

-- Each of its properties of strings has a string that is not one character.
pub unicode_properties : HasPropertiesOfStrings unicode_table
unfolding unicode_table unicode_parts unicode_strings
unicode_properties = refl

-- Its identifiers have no delimiter.
pub unicode_identifiers : HasIdentifiers unicode_table
unicode_identifiers = (unicode_valid.id_start_ascii, unicode_valid.id_continue_ascii)
