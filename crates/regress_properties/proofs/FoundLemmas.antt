-- What is found by name in lists that are equal to the constants.
use Rattle.std.proofs.Common.{◌≡◌, ◌++◌, ℕ, List, map, sym, subst, ap, ap₂, ◌∙◌}
use Rattle.std.proofs.lemmas.Simd.{map-map}
use Rattle.regress_base.specs.Table.{Named}
use Rattle.regress_properties.specs.declared.data.intervals.TheConstants.{INTERVALS}
use Rattle.regress_properties.specs.declared.data.names.TheConstants.{GENERAL_CATEGORY, SCRIPT, SCRIPT_REST, SCRIPT_EXTENSIONS, SCRIPT_EXTENSIONS_REST, BINARY}
use Rattle.regress_properties.specs.declared.data.strings.TheConstants.{STRINGS, POINTS}
use Rattle.regress_properties.specs.Listed.{range_of, named_set, AreSets, AreStrings}
use Rattle.regress_properties.specs.Properties.{unicode_general_category, unicode_script, unicode_script_extensions, unicode_binary}

-- lists of the same ranges with names have the same values that are made from those
same_made : {N M A : Type 0} (text : N → List ℕ) (text_of : M → List ℕ) (made : Named (ℕ × ℕ) → A) (names : List (N × ℕ × ℕ))
    (constant : List (M × ℕ × ℕ)) → map (λ n. range_of (text n.0) n.1 n.2) names ≡ map (λ n. range_of (text_of n.0) n.1 n.2) constant →
    map (λ n. made (range_of (text n.0) n.1 n.2)) names ≡ map (λ n. made (range_of (text_of n.0) n.1 n.2)) constant
same_made text text_of made names constant is =
    sym (map-map made (λ n. range_of (text n.0) n.1 n.2) names) ∙ ap (map made) is
    ∙ map-map made (λ n. range_of (text_of n.0) n.1 n.2) constant

-- the constants are variables in these, so that none is unfolded
pub are_sets_in : {N M : Type 0} (text : N → List ℕ) (text_of : M → List ℕ) (intervals : List ℕ) (names : List (N × ℕ × ℕ)) (all : List ℕ)
    (constant : List (M × ℕ × ℕ)) → intervals ≡ all →
    map (λ n. range_of (text n.0) n.1 n.2) names ≡ map (λ n. range_of (text_of n.0) n.1 n.2) constant →
    AreSets all (map (λ n. (n.1, n.2)) constant) → AreSets intervals (map (λ n. (n.1, n.2)) names)
are_sets_in text text_of intervals names all constant same is h =
    subst (λ (xs : List ℕ). AreSets xs (map (λ n. (n.1, n.2)) names)) (sym same)
    (subst (AreSets all) (sym (same_made text text_of (λ range. range.value) names constant is)) h)

named_sets : {N M : Type 0} (text : N → List ℕ) (text_of : M → List ℕ) (intervals : List ℕ) (names : List (N × ℕ × ℕ)) (all : List ℕ)
    (constant : List (M × ℕ × ℕ)) → intervals ≡ all →
    map (λ n. range_of (text n.0) n.1 n.2) names ≡ map (λ n. range_of (text_of n.0) n.1 n.2) constant →
    map (λ n. named_set intervals (text n.0) n.1 n.2) names ≡ map (λ n. named_set all (text_of n.0) n.1 n.2) constant
named_sets text text_of intervals names all constant same is =
    ap (λ (xs : List ℕ). map (λ n. named_set xs (text n.0) n.1 n.2) names) same
    ∙ same_made text text_of (λ range. named_set all range.name range.value.0 range.value.1) names constant is

pub general_category_in : {N : Type 0} (text : N → List ℕ) (intervals : List ℕ) (names : List (N × ℕ × ℕ)) → intervals ≡ INTERVALS.now →
    map (λ n. range_of (text n.0) n.1 n.2) names ≡ map (λ n. range_of n.0.now n.1 n.2) GENERAL_CATEGORY.now →
    map (λ n. named_set intervals (text n.0) n.1 n.2) names ≡ unicode_general_category
unfolding unicode_general_category
general_category_in text intervals names same is = named_sets text (λ name. name.now) intervals names INTERVALS.now GENERAL_CATEGORY.now same is

pub script_in : {N : Type 0} (text : N → List ℕ) (intervals : List ℕ) (names rest : List (N × ℕ × ℕ)) → intervals ≡ INTERVALS.now →
    map (λ n. range_of (text n.0) n.1 n.2) names ≡ map (λ n. range_of n.0.now n.1 n.2) SCRIPT.now →
    map (λ n. range_of (text n.0) n.1 n.2) rest ≡ map (λ n. range_of n.0.now n.1 n.2) SCRIPT_REST.now →
    map (λ n. named_set intervals (text n.0) n.1 n.2) names ++ map (λ n. named_set intervals (text n.0) n.1 n.2) rest ≡ unicode_script
unfolding unicode_script
script_in text intervals names rest same is is_rest =
    ap₂ (λ xs ys. xs ++ ys) (named_sets text (λ name. name.now) intervals names INTERVALS.now SCRIPT.now same is)
    (named_sets text (λ name. name.now) intervals rest INTERVALS.now SCRIPT_REST.now same is_rest)

pub script_extensions_in : {N : Type 0} (text : N → List ℕ) (intervals : List ℕ) (names rest : List (N × ℕ × ℕ)) → intervals ≡ INTERVALS.now →
    map (λ n. range_of (text n.0) n.1 n.2) names ≡ map (λ n. range_of n.0.now n.1 n.2) SCRIPT_EXTENSIONS.now →
    map (λ n. range_of (text n.0) n.1 n.2) rest ≡ map (λ n. range_of n.0.now n.1 n.2) SCRIPT_EXTENSIONS_REST.now →
    map (λ n. named_set intervals (text n.0) n.1 n.2) names ++ map (λ n. named_set intervals (text n.0) n.1 n.2) rest ≡ unicode_script_extensions
unfolding unicode_script_extensions
script_extensions_in text intervals names rest same is is_rest =
    ap₂ (λ xs ys. xs ++ ys) (named_sets text (λ name. name.now) intervals names INTERVALS.now SCRIPT_EXTENSIONS.now same is)
    (named_sets text (λ name. name.now) intervals rest INTERVALS.now SCRIPT_EXTENSIONS_REST.now same is_rest)

pub binary_in : {N : Type 0} (text : N → List ℕ) (intervals : List ℕ) (names : List (N × ℕ × ℕ)) → intervals ≡ INTERVALS.now →
    map (λ n. range_of (text n.0) n.1 n.2) names ≡ map (λ n. range_of n.0.now n.1 n.2) BINARY.now →
    map (λ n. named_set intervals (text n.0) n.1 n.2) names ≡ unicode_binary
unfolding unicode_binary
binary_in text intervals names same is = named_sets text (λ name. name.now) intervals names INTERVALS.now BINARY.now same is

pub strings_in : (listed : List (ℕ × ℕ)) (points : List ℕ) → listed ≡ STRINGS.now → points ≡ POINTS.now → (positions : List (ℕ × ℕ)) →
    AreStrings STRINGS.now POINTS.now positions → AreStrings listed points positions
strings_in listed points same points_same positions h =
    subst (λ (xs : List (ℕ × ℕ)). AreStrings xs points positions) (sym same)
    (subst (λ (xs : List ℕ). AreStrings STRINGS.now xs positions) (sym points_same) h)
