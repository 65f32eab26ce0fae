-- A search finds the match of ECMA-262.
use Rattle.std.proofs.Common.{◌≡◌, ℕ, zero, suc, ◌≤◌, Bool, true, false, ◌||◌, List, [], ◌∷◌, length, take, Option, Some, None, option_map, encode_utf8_all, refl, sym, ap, ap₂, subst, ◌∙◌, arith}
use Rattle.std.specs.Prelude.{chars}
use Rattle.std.specs.Str.{IsUtf8}
use Rattle.std.proofs.lemmas.Bool.{and_from, and_parts}
use Rattle.std.proofs.lemmas.List.{length-take-le}
use Rattle.std.proofs.lemmas.Str.{encodes-chars}
use Rattle.regress_front.specs.Accepted.{IsAcceptedIn, own_context_in}
use Rattle.regress_front.specs.Reading.{IsText, byte_position}
use Rattle.regress_front.specs.Steps.{Setting}
use Rattle.regress_front.specs.Source.{Source}
use Rattle.regress_front.specs.Syntax.{Pattern}
use Rattle.regress_front.specs.Tree.{Tree}
use Rattle.regress_front.specs.declared.parse.Dialect.{Dialect}
use Rattle.regress_front.specs.declared.parse.Dialect.TheVariants.{Ecma, Regress}
use Rattle.regress_ecma.specs.CodeUnits.{characters, code_units, found_in_utf8, index_of, is_exact, is_one_character, unit_position}
use Rattle.regress_ecma.specs.Compared.{IsComparable}
use Rattle.regress_ecma.specs.CompiledClasses.{with_char_sets}
use Rattle.regress_ecma.specs.Exec.{builtin_exec, found_in_bytes}
use Rattle.regress_ecma.proofs.lemmas.Searches.{HasMeaning, Returns, returned, outcomes_from, decoded, leftmost, nowhere}
use Rattle.regress_found.specs.Found.{outcomes_at, Finds, start_of, state_of}
use Rattle.regress_parse.proofs.lemmas.{length-names, length-pattern_groups}
use Rattle.std.proofs.lemmas.List.Sorted.{length_permutation}
use Rattle.regress_found.specs.declared.found.Match.{Match}
use Rattle.regress_tree.proofs.lemmas.Characters.{byte_position-zero}
use Rattle.regress.specs.Compiled.{IsCompiledFromIn, IsTreeOfIn, outcomes_of, tree_of}
use Rattle.regress.specs.declared.pattern.Regex.{Regex}

-- what a search finds is what RegExpBuiltinExec finds, in byte offsets
abbrev IsMatchOf : Setting → Pattern → (input : List ℕ) → (index : ℕ) → Option Match → Type 0
IsMatchOf setting p input index found =
    option_map (λ m. (start_of m, state_of m)) found ≡ option_map found_in_bytes (builtin_exec setting p input index)

has_meaning : (dialect : Dialect) (setting : Setting) (source : List ℕ) (t : Tree) (is : IsTreeOfIn dialect setting source t) →
    HasMeaning setting t is.pattern
has_meaning dialect setting source t is = record {
  outcomes = is.meaning;
  groups = length_permutation _ _ is.captures ∙ length-pattern_groups is.pattern ∙ sym (length-names is.pattern);
}

over_characters : (setting : Setting) (p q : Pattern) (t : Tree) → HasMeaning setting t p → (text : List ℕ) → IsText text → Returns setting p q text →
    (index : ℕ) → index ≤ length text → (found : Option Match) →
    Finds (encode_utf8_all text) (outcomes_from setting (encode_utf8_all text) t) (byte_position text index) found →
    IsMatchOf setting q text index found
over_characters setting p q t means text is_text returns index within None finds =
    sym (ap (option_map found_in_bytes) (nowhere setting p q t means text is_text returns index within finds))
over_characters setting p q t means text is_text returns index within (Some m) finds =
    sym (leftmost setting p q t means text is_text returns index (start_of m) within finds.from finds.boundary (state_of m) finds.first.0
    finds.first.1 finds.least)

-- for a syntax tree of which the matcher of ECMA-262 returns the first outcome of the pattern
pub finds_match_of : (dialect : Dialect) (setting : Setting) (pattern : Source) (r : Regex) (compiled : IsCompiledFromIn dialect setting pattern r)
    (q : Pattern) (text : List ℕ) → IsUtf8 text → Returns setting compiled.tree.pattern q (chars text) → (index : ℕ) → index ≤ length (chars text) →
    (found : Option Match) → Finds text (outcomes_of r text) (byte_position (chars text) index) found → IsMatchOf setting q (chars text) index found
finds_match_of dialect setting pattern r compiled q text utf8 returns index within found finds =
    let means = has_meaning dialect setting pattern (tree_of r) compiled.tree in
    let start = byte_position (chars text) index in
    let under_setting : Finds text (outcomes_from setting text (tree_of r)) start found =
    subst (λ (s : Setting). Finds text (outcomes_at s text (tree_of r)) start found) compiled.setting finds in
    over_characters setting compiled.tree.pattern q (tree_of r) means (chars text) (decoded text utf8) returns index within found
    (subst (λ (bytes : List ℕ). Finds bytes (outcomes_from setting bytes (tree_of r)) start found) (sym (encodes-chars text utf8)) under_setting)

pub finds_match_from : (setting : Setting) (pattern : Source) (r : Regex) (compiled : IsCompiledFromIn Regress setting pattern r) →
    IsComparable setting compiled.tree.pattern → (text : List ℕ) → IsUtf8 text → (index : ℕ) → index ≤ length (chars text) →
    (found : Option Match) → Finds text (outcomes_of r text) (byte_position (chars text) index) found →
    IsMatchOf setting compiled.tree.pattern (chars text) index found
finds_match_from setting pattern r compiled comparable text utf8 =
    finds_match_of Regress setting pattern r compiled compiled.tree.pattern text utf8
    (returned setting compiled.tree.pattern comparable (chars text) (decoded text utf8))

pub finds_match : (setting : Setting) (pattern : Source) (r : Regex) (compiled : IsCompiledFromIn Regress setting pattern r) →
    IsComparable setting compiled.tree.pattern → (text : List ℕ) → IsUtf8 text → (found : Option Match) →
    Finds text (outcomes_of r text) 0 found → IsMatchOf setting compiled.tree.pattern (chars text) 0 found
finds_match setting pattern r compiled comparable text utf8 found finds =
    finds_match_from setting pattern r compiled comparable text utf8 0 (omega arith) found
    (subst (λ (o : ℕ). Finds text (outcomes_of r text) o found) (sym (byte_position-zero (chars text))) finds)

-- The pattern is accepted from a source in the dialect `Ecma`, and each search of a text from a position finds the match in
-- an input from an index on.
abbrev FindsMatchesIn : Setting → Pattern → Regex → (text source input : List ℕ) → (index : ℕ → ℕ) → Type 0
FindsMatchesIn setting p r text source input index =
    (accepted : IsAcceptedIn Ecma setting source p)
    × ((position : ℕ) → position ≤ length (chars text) → (found : Option Match) →
    Finds text (outcomes_of r text) (byte_position (chars text) position) found →
    option_map (λ m. (start_of m, state_of m)) found
    ≡ option_map found_in_utf8
    (builtin_exec setting (with_char_sets (own_context_in Ecma setting p) p source [] accepted.derived) input (index position)))

pub finds_matches_in : (setting : Setting) (p : Pattern) (r : Regex) (text pattern source input : List ℕ) (index : ℕ → ℕ) → source ≡ pattern →
    (accepted : IsAcceptedIn Ecma setting pattern p) →
    ((position : ℕ) → position ≤ length (chars text) → (found : Option Match) →
    Finds text (outcomes_of r text) (byte_position (chars text) position) found →
    IsMatchOf setting (with_char_sets (own_context_in Ecma setting p) p pattern [] accepted.derived) (chars text) position found) →
    ((position : ℕ) → position ≤ length (chars text) →
    option_map found_in_utf8
    (builtin_exec setting (with_char_sets (own_context_in Ecma setting p) p pattern [] accepted.derived) input (index position))
    ≡ option_map found_in_bytes
    (builtin_exec setting (with_char_sets (own_context_in Ecma setting p) p pattern [] accepted.derived) (chars text) position)) →
    FindsMatchesIn setting p r text source input index
finds_matches_in setting p r text pattern source input index same_source accepted finds same =
    subst (λ (s : List ℕ). FindsMatchesIn setting p r text s input index) (sym same_source)
    (accepted, λ position within found found_there. finds position within found found_there ∙ sym (same position within))

exact-take : (unicode : Bool) (k : ℕ) (text : List ℕ) → is_exact unicode text ≡ true → is_exact unicode (take k text) ≡ true
exact-take unicode zero text exact = refl
exact-take unicode (suc k) [] exact = refl
exact-take unicode (suc k) (c ∷ text) exact =
    let parts = and_parts (is_one_character unicode c) (is_exact unicode text) exact in
    and_from (is_one_character unicode c) (is_exact unicode (take k text)) parts.0 (exact-take unicode k text parts.1)

-- What is found in the characters of a text, by offsets in UTF-8, is what is found in the text.
abbrev IsFoundIn : Setting → Pattern → (text input : List ℕ) → (index : ℕ → ℕ) → Type 0
IsFoundIn setting q text input index =
    (k : ℕ) → k ≤ length text →
    option_map found_in_utf8 (builtin_exec setting q input (index k)) ≡ option_map found_in_bytes (builtin_exec setting q text k)

-- if each character is one of the input
pub found_in_characters : (setting : Setting) (q : Pattern) (text : List ℕ) → is_exact setting.flags.unicode text ≡ true →
    ((points : List ℕ) → is_exact setting.flags.unicode points ≡ true → characters setting.flags.unicode (code_units points) ≡ points) →
    ((k : ℕ) → k ≤ length text → option_map found_in_utf8 (builtin_exec setting q text k) ≡ option_map found_in_bytes (builtin_exec setting q text k)) →
    IsFoundIn setting q text (characters setting.flags.unicode (code_units text)) (index_of setting.flags.unicode text)
found_in_characters setting q text exact same offsets k within =
    let prefix = same (take k text) (exact-take setting.flags.unicode k text exact) in
    let index : index_of setting.flags.unicode text k ≡ k = ap length prefix ∙ length-take-le k text within in
    ap₂ (λ (input : List ℕ) (i : ℕ). option_map found_in_utf8 (builtin_exec setting q input i)) (same text exact) index ∙ offsets k within

-- or if it is found outside of pairs
pub found_in_units : (setting : Setting) (q : Pattern) (text : List ℕ) → setting.flags.unicode ≡ false →
    ((k : ℕ) → k ≤ length text →
    option_map found_in_utf8 (builtin_exec setting q (code_units text) (unit_position text k)) ≡ option_map found_in_bytes (builtin_exec setting q text k)) →
    IsFoundIn setting q text (characters setting.flags.unicode (code_units text)) (index_of setting.flags.unicode text)
found_in_units setting q text no_u offsets k within =
    ap (λ (u : Bool). option_map found_in_utf8 (builtin_exec setting q (characters u (code_units text)) (index_of u text k))) no_u ∙ offsets k within

-- Either is so.
pub found_either_way : (setting : Setting) (q : Pattern) (text : List ℕ) (outside : Bool) → (outside || is_exact setting.flags.unicode text) ≡ true →
    is_exact true text ≡ true →
    ((points : List ℕ) → is_exact setting.flags.unicode points ≡ true → characters setting.flags.unicode (code_units points) ≡ points) →
    ((k : ℕ) → k ≤ length text → option_map found_in_utf8 (builtin_exec setting q text k) ≡ option_map found_in_bytes (builtin_exec setting q text k)) →
    (outside ≡ true → (k : ℕ) → k ≤ length text →
    option_map found_in_utf8 (builtin_exec setting q (code_units text) (unit_position text k)) ≡ option_map found_in_bytes (builtin_exec setting q text k)) →
    IsFoundIn setting q text (characters setting.flags.unicode (code_units text)) (index_of setting.flags.unicode text)
found_either_way setting q text false exact with_u same offsets units = found_in_characters setting q text exact same offsets
found_either_way setting q text true exact with_u same offsets units = by_flag setting.flags.unicode refl
  where
    by_flag : (u : Bool) → setting.flags.unicode ≡ u →
        IsFoundIn setting q text (characters setting.flags.unicode (code_units text)) (index_of setting.flags.unicode text)
    by_flag true e = found_in_characters setting q text (ap (λ (b : Bool). is_exact b text) e ∙ with_u) same offsets
    by_flag false e = found_in_units setting q text e (units refl)
