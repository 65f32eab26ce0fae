-- Examples: what the dialects accept, and what references to several groups match. In the dialect `Ecma` the results are
-- those of V8 11.3, and those of patterns with several groups of one name follow from ECMA-262.
use Rattle.std.proofs.Common.{◌≡◌, ℕ, false, true, List, [], ◌∷◌, Option, Some, None, refl, codes}
use Rattle.regress_base.specs.Intervals.{Bounds}
use Rattle.regress_base.specs.declared.charclasses.CharacterClassType.TheVariants.{Words}
use Rattle.regress_base.specs.declared.types.Flags.{Flags}
use Rattle.regress_tree.specs.Steps.{Setting}
use Rattle.regress_lexer.specs.declared.dialect.Dialect.TheVariants.{Regress, Ecma}
use Rattle.regress_lexer.specs.Dialects.{flags_in_force}
use Rattle.regress_syntax.specs.Syntax.{Pattern, one, no_terms, more_terms, atom, literal, boundary, class, class_escape, string_property}
use Rattle.example_definitions.proofs.PatternExamples.{letter, word, quantifier}
use Rattle.regress_lexer.specs.Source.{Source}
use Rattle.example_definitions.proofs.Meanings.{no_flags, run, plain, named, unicode, pattern_in, GivesIn, from, at, unset, span}

-- ---- flags

abbrev sets_alone : Flags
sets_alone = record no_flags { unicode_sets = true }

abbrev sets_and_unicode : Flags
sets_and_unicode = record no_flags { unicode = true; unicode_sets = true }

v_implies_u : flags_in_force Ecma sets_alone ≡ sets_and_unicode
v_implies_u = refl

no_flag_implies_u_but_v : flags_in_force Ecma no_flags ≡ no_flags
no_flag_implies_u_but_v = refl

flags_are_independent : flags_in_force Regress sets_alone ≡ sets_alone
flags_are_independent = refl

-- with the flag v alone, as it is in force
abbrev sets_in_ecma : Setting
sets_in_ecma = record plain { flags = flags_in_force Ecma sets_alone }

abbrev sets_in_regress : Setting
sets_in_regress = record plain { flags = flags_in_force Regress sets_alone }

no_letter_escapes_itself_with_v : pattern_in Ecma sets_in_ecma (codes "\\y") ≡ None
unfolding pattern_in
no_letter_escapes_itself_with_v = refl

a_letter_escapes_itself_without_u : pattern_in Regress sets_in_regress (codes "\\y") ≡ Some (one (word (atom (literal sets_alone 121))))
unfolding pattern_in
a_letter_escapes_itself_without_u = refl

-- ---- quantifiers on `\b` and `\B`

-- `\b*`
abbrev repeated_boundary : Pattern
repeated_boundary = one (more_terms (atom (boundary no_flags false)) (Some (quantifier 0 None)) no_terms)

a_boundary_repeats : pattern_in Regress plain (codes "\\b*") ≡ Some repeated_boundary
unfolding pattern_in
a_boundary_repeats = refl

no_boundary_repeats_in_ecma : pattern_in Ecma plain (codes "\\b*") ≡ None
unfolding pattern_in
no_boundary_repeats_in_ecma = refl

no_inverted_boundary_repeats_in_ecma : pattern_in Ecma plain (codes "(?:\\B{2})") ≡ None
unfolding pattern_in
no_inverted_boundary_repeats_in_ecma = refl

-- `\ba*`
a_letter_repeats_after_a_boundary : pattern_in Ecma plain (codes "\\ba*")
    ≡ Some (one (more_terms (atom (boundary no_flags false)) None (more_terms (letter 97) (Some (quantifier 0 None)) no_terms)))
unfolding pattern_in
a_letter_repeats_after_a_boundary = refl

-- A `{` that begins no quantifier is a literal.
a_brace_after_a_boundary : pattern_in Ecma plain (codes "\\b{")
    ≡ Some (one (more_terms (atom (boundary no_flags false)) None (word (letter 123))))
unfolding pattern_in
a_brace_after_a_boundary = refl

a_class_of_backspace_repeats : pattern_in Ecma plain (codes "[\\b]*") ≡ pattern_in Regress plain (codes "[\\b]*")
unfolding pattern_in
a_class_of_backspace_repeats = refl

-- ---- class escapes with the flag i

abbrev ignoring_case : Flags
ignoring_case = record no_flags { icase = true }

-- Without u no class escape has characters that only the flag i adds.
a_class_escape_without_u : pattern_in Ecma (record plain { flags = ignoring_case }) (codes "\\W")
    ≡ Some (one (word (atom (class_escape no_flags Words true))))
unfolding pattern_in
a_class_escape_without_u = refl

a_class_escape_with_u : pattern_in Ecma (record plain { flags = record ignoring_case { unicode = true } }) (codes "\\W")
    ≡ Some (one (word (atom (class_escape (record ignoring_case { unicode = true }) Words true))))
unfolding pattern_in
a_class_escape_with_u = refl

a_class_escape_in_regress : pattern_in Regress (record plain { flags = ignoring_case }) (codes "\\W")
    ≡ Some (one (word (atom (class_escape ignoring_case Words true))))
unfolding pattern_in
a_class_escape_in_regress = refl

-- ---- braces after `\u`

-- the letter u, 61 times
abbrev many_letters : Pattern
many_letters = one (more_terms (letter 117) (Some (quantifier 61 (Some 61))) no_terms)

braces_make_an_escape : pattern_in Regress plain (codes "\\u{61}") ≡ Some (one (word (letter 97)))
unfolding pattern_in
braces_make_an_escape = refl

braces_make_no_escape_in_ecma : pattern_in Ecma plain (codes "\\u{61}") ≡ Some many_letters
unfolding pattern_in
braces_make_no_escape_in_ecma = refl

with_u_they_make_an_escape_in_ecma : pattern_in Ecma unicode (codes "\\u{61}") ≡ pattern_in Regress unicode (codes "\\u{61}")
unfolding pattern_in
with_u_they_make_an_escape_in_ecma = refl

in_a_class_they_are_IsClassInEcma : pattern_in Ecma plain (codes "[\\u{6}]") ≡ pattern_in Regress plain (codes "[u{6}]")
unfolding pattern_in
in_a_class_they_are_IsClassInEcma = refl

four_digits_make_an_escape_in_ecma : pattern_in Ecma plain (codes "\\u0061") ≡ Some (one (word (letter 97)))
unfolding pattern_in
four_digits_make_an_escape_in_ecma = refl

-- In the name of a group braces make an escape in every mode.
in_a_name_they_make_an_escape_in_ecma : pattern_in Ecma named (codes "(?<\\u{61}>x)\\k<a>") ≡ pattern_in Ecma named (codes "(?<a>x)\\k<a>")
unfolding pattern_in
in_a_name_they_make_an_escape_in_ecma = refl

-- ---- `\k` in a class

no_k_beside_a_name_in_ecma : pattern_in Ecma named (codes "(?<a>x)[\\k]") ≡ None
unfolding pattern_in
no_k_beside_a_name_in_ecma = refl

k_beside_a_name : pattern_in Regress named (codes "(?<a>x)[\\k]") ≡ pattern_in Regress named (codes "(?<a>x)[k]")
unfolding pattern_in
k_beside_a_name = refl

k_without_a_name_in_ecma : pattern_in Ecma plain (codes "(x)[\\k]") ≡ pattern_in Regress plain (codes "(x)[k]")
unfolding pattern_in
k_without_a_name_in_ecma = refl

-- ---- code points above U+FFFF in a class

-- a class of these members
abbrev members : List Bounds → Option Pattern
members given = Some (one (word (atom (class no_flags false given))))

abbrev IsClassInEcma : Source → List Bounds → Type 0
IsClassInEcma t given = pattern_in Ecma plain t ≡ members given

-- U+1F600 is the code units D83D and DE00. A range begins at the last one, and ends at the first.
two_IsClassInEcma :
    IsClassInEcma (codes "[😀]") (run 0xD83D 0xD83D ∷ run 0xDE00 0xDE00 ∷ [])
    × IsClassInEcma (codes "[\\uD83D\\uDE00]") (run 0xD83D 0xD83D ∷ run 0xDE00 0xDE00 ∷ [])
    × IsClassInEcma (codes "[a-😀]") (run 0x61 0xD83D ∷ run 0xDE00 0xDE00 ∷ [])
    × IsClassInEcma (codes "[😀-\\uFFFF]") (run 0xD83D 0xD83D ∷ run 0xDE00 0xFFFF ∷ [])
unfolding pattern_in
two_IsClassInEcma = (refl, refl, refl, refl)

a_reversed_range_in_ecma : (pattern_in Ecma plain (codes "[😀-😎]") ≡ None) × (pattern_in Ecma plain (codes "[\\uDE00-😀]") ≡ None)
unfolding pattern_in
a_reversed_range_in_ecma = (refl, refl)

-- The second code unit begins another range.
two_ranges_in_ecma : IsClassInEcma (codes "[a-😀-\\uFFFF]")
    (run 0x61 0xD83D ∷ run 0xDE00 0xDE00 ∷ run 0xD83D 0xD83D ∷ run 0xDE00 0xFFFF ∷ [])
    × (pattern_in Ecma plain (codes "[a-😀-z]") ≡ None)
unfolding pattern_in
two_ranges_in_ecma = (refl, refl)

one_member_in_regress : pattern_in Regress plain (codes "[😀-😎]") ≡ members (run 0x1F600 0x1F60E ∷ [])
unfolding pattern_in
one_member_in_regress = refl

one_member_with_u_in_ecma : pattern_in Ecma unicode (codes "[😀-😎]") ≡ pattern_in Regress unicode (codes "[😀-😎]")
unfolding pattern_in
one_member_with_u_in_ecma = refl

-- ---- properties of strings

-- a table with a property of three strings
abbrev three_strings : Setting
three_strings = record sets_in_ecma {
  table = record sets_in_ecma.table { strings = record { name = codes "S"; value = codes "a" ∷ codes "bc" ∷ codes "d" ∷ [] } ∷ [] };
}

-- the property, with its strings in this order
abbrev in_this_order : List (List ℕ) → Option Pattern
in_this_order strings = Some (one (word (atom (string_property sets_and_unicode strings))))

the_longest_string_comes_first_in_ecma : pattern_in Ecma three_strings (codes "\\p{S}") ≡ in_this_order (codes "bc" ∷ codes "a" ∷ codes "d" ∷ [])
unfolding pattern_in
the_longest_string_comes_first_in_ecma = refl

strings_come_as_listed_in_regress : pattern_in Regress three_strings (codes "\\p{S}") ≡ in_this_order (codes "a" ∷ codes "bc" ∷ codes "d" ∷ [])
unfolding pattern_in
strings_come_as_listed_in_regress = refl

-- ---- references to several groups of one name

-- In `Ecma` one matches what the group that is set has captured, and the empty string if none is set.
abbrev two_names : Source
two_names = codes "(?:(?<a>x)|(?<a>y)|z)\\k<a>"

a_reference_takes_the_group_that_is_set_in_ecma :
    GivesIn Ecma named two_names (codes "yy") (from 0 (at 2 (unset ∷ span 0 1 ∷ []) ∷ []) ∷ [])
    × GivesIn Ecma named two_names (codes "xx") (from 0 (at 2 (span 0 1 ∷ unset ∷ []) ∷ []) ∷ [])
    × GivesIn Ecma named two_names (codes "xy") (from 0 [] ∷ [])
    × GivesIn Ecma named two_names (codes "z") (from 0 (at 1 (unset ∷ unset ∷ []) ∷ []) ∷ [])
unfolding GivesIn
a_reference_takes_the_group_that_is_set_in_ecma = ((refl, refl), (refl, refl), (refl, refl), (refl, refl))

-- In `Regress` it tries each of them, and a group that is not set matches the empty string.
a_reference_tries_each_group : GivesIn Regress named two_names (codes "yy")
    (from 0 (at 1 (unset ∷ span 0 1 ∷ []) ∷ at 2 (unset ∷ span 0 1 ∷ []) ∷ []) ∷ [])
unfolding GivesIn
a_reference_tries_each_group = (refl, refl)
