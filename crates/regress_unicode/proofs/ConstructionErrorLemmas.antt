-- The errors of `Tables::new` in order.
use Rattle.std.proofs.Common.{◌≡◌, ℕ, suc, ◌<◌, IsTrue, List, [], ◌∷◌, ◌&&◌, String, Vec, Global, cond, lit<, ◌==◌, inl, inr, refl, sym, ap, subst, ◌∙◌, arith}
use Rattle.std.proofs.lemmas.Bool.{cases_lt}
use Rattle.std.proofs.lemmas.List.Folds.{list_all-map}
use Rattle.std.specs.List.{list_all}
use Rattle.std.specs.Prelude.{alloc_error}
use Rattle.regress_unicode.specs.declared.tables_error.Which.TheVariants.{Fold, Upper}
use Rattle.regress_unicode.specs.declared.tables_error.TablesError.{TablesError}
use Rattle.regress_unicode.specs.declared.tables_error.TablesError.TheVariants.{RangeOrder, TargetOutOfRange, NotIdempotent, ClassTooLarge, IdentifierPunctuation, BadString, Memory}
use Rattle.regress_unicode.specs.FoldEntries.{FoldEntry, mapped}
use Rattle.regress_unicode.specs.ValidEntries.{is_in_order, are_targets_in_range, AreValidEntries}
use Rattle.regress_base.specs.Table.{Named, IsIdempotent, HasSmallClasses, is_string}
use Rattle.regress_unicode.specs.Parts.{Parts, strings_of}
use Rattle.regress_unicode.specs.ConstructionErrors.{Meets, position, IsFirstError}

-- the parts meet the conditions of all errors before a position
abbrev pub MeetsBefore : Parts → ℕ → Type 0
MeetsBefore parts n = (e : TablesError) → position e < n → Meets parts e

pub meets_none : (parts : Parts) → MeetsBefore parts 0
meets_none parts e lt = absurd (omega arith)

-- the error at a position
at_position : ℕ → TablesError
at_position n =
    cond (n == 0) (RangeOrder Fold) (cond (n == 1) (RangeOrder Upper)
    (cond (n == 2) (TargetOutOfRange Fold) (cond (n == 3) (TargetOutOfRange Upper)
    (cond (n == 4) (NotIdempotent Fold) (cond (n == 5) (NotIdempotent Upper)
    (cond (n == 6) (ClassTooLarge Fold) (cond (n == 7) (ClassTooLarge Upper)
    (cond (n == 8) IdentifierPunctuation (cond (n == 9) BadString (Memory alloc_error))))))))))

at_its_position : (e : TablesError) → position e < 10 → at_position (position e) ≡ e
unfolding at_position
at_its_position (RangeOrder Fold) lt = refl
at_its_position (RangeOrder Upper) lt = refl
at_its_position (TargetOutOfRange Fold) lt = refl
at_its_position (TargetOutOfRange Upper) lt = refl
at_its_position (NotIdempotent Fold) lt = refl
at_its_position (NotIdempotent Upper) lt = refl
at_its_position (ClassTooLarge Fold) lt = refl
at_its_position (ClassTooLarge Upper) lt = refl
at_its_position IdentifierPunctuation lt = refl
at_its_position BadString lt = refl
at_its_position (Memory error) lt = absurd (omega arith)

-- one more error
pub meets_more : (parts : Parts) (e : TablesError) → position e < 10 → MeetsBefore parts (position e) → Meets parts e →
    MeetsBefore parts (suc (position e))
meets_more parts e small before here other lt = elim (cases_lt (position other) (position e)) [
  | inl earlier ↦ before other earlier
  | inr later ↦ (
      let same : position e ≡ position other = omega arith in
      subst (λ (x : TablesError). Meets parts x) (sym (at_its_position e small) ∙ ap at_position same ∙ at_its_position other (omega arith)) here)
]

-- the conditions that the entries of both mappings meet before an error
pub meets_five : (p : Parts) → Meets p (RangeOrder Fold) → Meets p (RangeOrder Upper) → Meets p (TargetOutOfRange Fold) →
    Meets p (TargetOutOfRange Upper) → Meets p (NotIdempotent Fold) → MeetsBefore p 5
meets_five p m0 m1 m2 m3 m4 =
    meets_more p (NotIdempotent Fold) (lit< tt) (meets_more p (TargetOutOfRange Upper) (lit< tt)
    (meets_more p (TargetOutOfRange Fold) (lit< tt)
    (meets_more p (RangeOrder Upper) (lit< tt) (meets_more p (RangeOrder Fold) (lit< tt) (meets_none p) m0) m1) m2) m3) m4

pub meets_six : (p : Parts) → MeetsBefore p 5 → Meets p (NotIdempotent Upper) → MeetsBefore p 6
meets_six p before m5 = meets_more p (NotIdempotent Upper) (lit< tt) before m5

pub meets_seven : (p : Parts) → MeetsBefore p 6 → Meets p (ClassTooLarge Fold) → MeetsBefore p 7
meets_seven p before m6 = meets_more p (ClassTooLarge Fold) (lit< tt) before m6

-- an error that is returned, by its name
pub reported : (p : Parts) (e named : TablesError) → e ≡ named → position named < 8 → ¬ Meets p named → MeetsBefore p (position named) →
    (position e < 8) × IsFirstError p e
reported p e named same lt due before =
    subst (λ (x : TablesError). (position x < 8) × IsFirstError p x) (sym same) (lt, record { due = due; before = before })

-- the conditions of the first eight errors depend on the entries alone
pub meets_by_mappings : (p q : Parts) → p.folds ≡ q.folds → p.uppers ≡ q.uppers → (e : TablesError) → position e < 8 → Meets p e → Meets q e
meets_by_mappings p q folds uppers (RangeOrder Fold) lt h = subst (λ (mappings : List FoldEntry). IsTrue (is_in_order mappings)) folds h
meets_by_mappings p q folds uppers (RangeOrder Upper) lt h = subst (λ (mappings : List FoldEntry). IsTrue (is_in_order mappings)) uppers h
meets_by_mappings p q folds uppers (TargetOutOfRange Fold) lt h = subst (λ (mappings : List FoldEntry). IsTrue (are_targets_in_range mappings)) folds h
meets_by_mappings p q folds uppers (TargetOutOfRange Upper) lt h = subst (λ (mappings : List FoldEntry). IsTrue (are_targets_in_range mappings)) uppers h
meets_by_mappings p q folds uppers (NotIdempotent Fold) lt h = subst (λ (mappings : List FoldEntry). IsIdempotent (mapped mappings)) folds h
meets_by_mappings p q folds uppers (NotIdempotent Upper) lt h = subst (λ (mappings : List FoldEntry). IsIdempotent (mapped mappings)) uppers h
meets_by_mappings p q folds uppers (ClassTooLarge Fold) lt h = subst (λ (mappings : List FoldEntry). HasSmallClasses (mapped mappings)) folds h
meets_by_mappings p q folds uppers (ClassTooLarge Upper) lt h = subst (λ (mappings : List FoldEntry). HasSmallClasses (mapped mappings)) uppers h
meets_by_mappings p q folds uppers IdentifierPunctuation lt h = absurd (omega arith)
meets_by_mappings p q folds uppers BadString lt h = absurd (omega arith)
meets_by_mappings p q folds uppers (Memory error) lt h = absurd (omega arith)

-- an error that applies first by the entries applies first by all parts
pub first_by_mappings : (p q : Parts) (e : TablesError) → p.folds ≡ q.folds → p.uppers ≡ q.uppers → position e < 8 → IsFirstError p e →
    IsFirstError q e
first_by_mappings p q e folds uppers lt first = record {
  due = λ h. first.due (meets_by_mappings q p (sym folds) (sym uppers) e lt h);
  before = λ other earlier. meets_by_mappings p q folds uppers other (omega arith) (first.before other earlier);
}

-- ---- the conditions that hold after the tests

pub mappings_meet : (p : Parts) → AreValidEntries p.folds → AreValidEntries p.uppers → MeetsBefore p 8
mappings_meet p folds uppers (RangeOrder Fold) lt = folds.in_order
mappings_meet p folds uppers (RangeOrder Upper) lt = uppers.in_order
mappings_meet p folds uppers (TargetOutOfRange Fold) lt = folds.in_range
mappings_meet p folds uppers (TargetOutOfRange Upper) lt = uppers.in_range
mappings_meet p folds uppers (NotIdempotent Fold) lt = folds.idempotent
mappings_meet p folds uppers (NotIdempotent Upper) lt = uppers.idempotent
mappings_meet p folds uppers (ClassTooLarge Fold) lt = folds.small_classes
mappings_meet p folds uppers (ClassTooLarge Upper) lt = uppers.small_classes
mappings_meet p folds uppers IdentifierPunctuation lt = absurd (omega arith)
mappings_meet p folds uppers BadString lt = absurd (omega arith)
mappings_meet p folds uppers (Memory error) lt = absurd (omega arith)

pub identifiers_rejected : (p : Parts) → AreValidEntries p.folds → AreValidEntries p.uppers → ¬ Meets p IdentifierPunctuation →
    IsFirstError p IdentifierPunctuation
identifiers_rejected p folds uppers due = record { due = due; before = mappings_meet p folds uppers }

pub strings_rejected : (p : Parts) → AreValidEntries p.folds → AreValidEntries p.uppers → Meets p IdentifierPunctuation → ¬ Meets p BadString →
    IsFirstError p BadString
strings_rejected p folds uppers identifiers due = record {
  due = due;
  before = meets_more p IdentifierPunctuation (lit< tt) (mappings_meet p folds uppers) identifiers;
}

pub all_met : (p : Parts) → AreValidEntries p.folds → AreValidEntries p.uppers → Meets p IdentifierPunctuation → Meets p BadString →
    (e : TablesError) → Meets p e
all_met p folds uppers identifiers strings (RangeOrder Fold) = folds.in_order
all_met p folds uppers identifiers strings (RangeOrder Upper) = uppers.in_order
all_met p folds uppers identifiers strings (TargetOutOfRange Fold) = folds.in_range
all_met p folds uppers identifiers strings (TargetOutOfRange Upper) = uppers.in_range
all_met p folds uppers identifiers strings (NotIdempotent Fold) = folds.idempotent
all_met p folds uppers identifiers strings (NotIdempotent Upper) = uppers.idempotent
all_met p folds uppers identifiers strings (ClassTooLarge Fold) = folds.small_classes
all_met p folds uppers identifiers strings (ClassTooLarge Upper) = uppers.small_classes
all_met p folds uppers identifiers strings IdentifierPunctuation = identifiers
all_met p folds uppers identifiers strings BadString = strings
all_met p folds uppers identifiers strings (Memory error) = tt

-- the test of the strings, as the code makes it
pub strings_test : (entries : List (String Global × Vec (Vec ℕ Global) Global)) →
    list_all (λ entry. list_all is_string entry.value) (strings_of entries) ≡ list_all
    (λ entry. list_all (λ string. is_string string.items) entry.1.items) entries
strings_test [] = refl
strings_test (entry ∷ entries) =
    let here = list_all-map is_string (λ (string : Vec ℕ Global). string.items) entry.1.items in
    let rest = strings_test entries in
    ap (λ b. b && list_all (λ (e : Named (List (List ℕ))). list_all is_string e.value) (strings_of entries)) here
    ∙ ap (λ b. list_all (λ (string : Vec ℕ Global). is_string string.items) entry.1.items && b) rest
