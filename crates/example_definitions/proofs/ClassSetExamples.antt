-- Examples: classes with the flag v, properties, and the marks of classes, computed from the definitions. The source of
-- a class starts after its `[`, and that of a property after its `\p`.
use Rattle.std.proofs.Common.{◌≡◌, ℕ, ◌≤◌, Bool, true, false, not, ◌&&◌, List, [], ◌∷◌, map, Some, None, refl, sym, ap, ◌∙◌, arith, codes}
use Rattle.std.proofs.lemmas.Bool.Decides.{nat_tests}
use Rattle.regress_base.specs.Classes.{digits, word_characters}
use Rattle.regress_base.specs.Intervals.{Bounds, code_point_max, is_member, is_within, intervals_of, IsCanonical}
use Rattle.regress_base.proofs.lemmas.Sets.{canonical_is, intervals_of-member}
use Rattle.regress_unicode.specs.SmallTable.{small_table}
use Rattle.regress_base.specs.Table.{named}
use Rattle.regress_classes.specs.ClassProductions.{complement}
use Rattle.regress_classes.specs.ClassSets.{Value, nothing, only, class_set_at, class_set_by, parts_by, operands_by, operand_at, set_character_at, strings_by}
use Rattle.regress_lexer.specs.declared.dialect.Dialect.{Dialect}
use Rattle.regress_lexer.specs.declared.dialect.Dialect.TheVariants.{Regress, Ecma}
use Rattle.regress_lexer.specs.Digits.{front, after}
use Rattle.regress_lexer.specs.Escapes.{escape_at, unicode_at}
use Rattle.regress_syntax.specs.Meaning.{longest_first}
use Rattle.regress_classes.specs.Properties.{Property, of_points, of_strings, property_at}
use Rattle.regress_syntax.specs.GroupTokens.{captures, closes, nests}
use Rattle.regress_syntax.specs.Scan.{plain, tokens}
use Rattle.regress_lexer.specs.Source.{Source, Found, found_map}

abbrev run : ℕ → ℕ → Bounds
run first last = record { first = first; last = last }

-- a single code point
abbrev one : ℕ → Bounds
one c = run c c

-- The letters and names of the small table, a dialect, and the flag u or not. Whether what is written may contain strings
-- is left out.
unfoldable read_in : Dialect → Bool → Source → Found (Bool × Value)
unfolding class_set_by parts_by operands_by operand_at set_character_at strings_by escape_at unicode_at front after property_at named small_table
read_in dialect unicode t =
    found_map (λ (negated, v). (negated, record v { may_have_strings = false }))
    (class_set_at small_table (record { dialect = dialect; icase = false; unicode = unicode; named = false }) t)

-- what is parsed in the dialect of `try_parse`, without the flag u
unfoldable read : Source → Found (Bool × Value)
unfolding read_in
read t = read_in Regress false t

-- The whole source is a class, negated or not, with these code points and strings, and with classes nested this deep
-- inside.
abbrev Reads : (negated : Bool) → Source → List Bounds → List (List ℕ) → ℕ → Type 0
Reads negated t members strings nesting =
    read t ≡ Some ((negated, record nothing { members = members; strings = strings; nesting = nesting }), [])

abbrev Holds : Source → List Bounds → List (List ℕ) → Type 0
Holds t members strings = Reads false t members strings 0

-- the same, with the empty string
abbrev HoldsEmpty : Source → List Bounds → List (List ℕ) → Type 0
HoldsEmpty t members strings =
    read t ≡ Some ((false, record nothing { members = members; strings = strings; has_empty = true }), [])

abbrev Nests : Source → List Bounds → (nesting : ℕ) → Type 0
Nests t members nesting = Reads false t members [] nesting

abbrev ReadsNothing : Source → Type 0
ReadsNothing t = read t ≡ None

-- ---- characters

backspace : Holds (codes "\\b]") (one 8 ∷ []) []
unfolding read
backspace = refl

a_second_caret_matches_itself : Reads true (codes "^^]") (one 0x5E ∷ []) [] 0
unfolding read
a_second_caret_matches_itself = refl

a_single_ampersand_is_a_member : Holds (codes "a&b]") (one 97 ∷ one 38 ∷ one 98 ∷ []) []
unfolding read
a_single_ampersand_is_a_member = refl

a_single_ampersand_may_occur_before_a_mark : Holds (codes "a&!b]") (one 97 ∷ one 38 ∷ one 33 ∷ one 98 ∷ []) []
unfolding read
a_single_ampersand_may_occur_before_a_mark = refl

-- ---- the dialect `Ecma`

-- The same in the dialect `Ecma`, with the flag u, which the flag v implies there.
unfoldable read_ecma : Source → Found (Bool × Value)
unfolding read_in
read_ecma t = read_in Ecma true t

abbrev HoldsInEcma : Source → List Bounds → Type 0
HoldsInEcma t members = read_ecma t ≡ Some ((false, only members), [])

two_punctuators_are_members : HoldsInEcma (codes "!#]") (one 0x21 ∷ one 0x23 ∷ [])
unfolding read_ecma
two_punctuators_are_members = refl

one_punctuator_twice_is_an_error : read_ecma (codes "!!]") ≡ None
unfolding read_ecma
one_punctuator_twice_is_an_error = refl

an_ampersand_begins_a_range : HoldsInEcma (codes "a&-c]") (one 97 ∷ run 38 99 ∷ [])
unfolding read_ecma
an_ampersand_begins_a_range = refl

no_ampersand_follows_an_operator : read_ecma (codes "a&&&]") ≡ None
unfolding read_ecma
no_ampersand_follows_an_operator = refl

a_negated_class_has_no_strings_in_writing : read_ecma (codes "^\\q{ab}--\\q{ab}]") ≡ None
unfolding read_ecma
a_negated_class_has_no_strings_in_writing = refl

-- ---- strings

a_range_beside_a_string : Holds (codes "a-c\\q{xy}]") (run 0x61 0x63 ∷ []) (codes "xy" ∷ [])
unfolding read
a_range_beside_a_string = refl

strings_occur_in_the_order_of_reading : Holds (codes "\\q{abc|de|fgh}]") [] (codes "abc" ∷ codes "de" ∷ codes "fgh" ∷ [])
unfolding read
strings_occur_in_the_order_of_reading = refl

a_string_of_one_is_a_character : Holds (codes "\\q{ab|c|abc}]") (one 99 ∷ []) (codes "ab" ∷ codes "abc" ∷ [])
unfolding read
a_string_of_one_is_a_character = refl

an_empty_string_is_kept : HoldsEmpty (codes "\\q{}]") [] []
unfolding read
an_empty_string_is_kept = refl

an_empty_string_beside_a_character : HoldsEmpty (codes "a\\q{}]") (one 97 ∷ []) []
unfolding read
an_empty_string_beside_a_character = refl

an_empty_string_between_others : HoldsEmpty (codes "\\q{ab||c}]") (one 99 ∷ []) (codes "ab" ∷ [])
unfolding read
an_empty_string_between_others = refl

an_empty_string_in_a_class_inside : read (codes "a[\\q{|bc}]]")
    ≡ Some ((false, record { members = one 97 ∷ []; strings = codes "bc" ∷ []; has_empty = true; may_have_strings = false; nesting = 1 }), [])
unfolding read
an_empty_string_in_a_class_inside = refl

in_a_string_an_escaped_d_is_the_letter : Holds (codes "\\q{\\d}]") (one 0x64 ∷ []) []
unfolding read
in_a_string_an_escaped_d_is_the_letter = refl

-- the strings of the property of strings that the small table has
abbrev keycaps : List (List ℕ)
keycaps = map (λ key. key ∷ 0xFE0F ∷ 0x20E3 ∷ []) (codes "#*0123456789")

a_property_of_strings_beside_a_digit : Holds (codes "\\p{Emoji_Keycap_Sequence}1]") (one 0x31 ∷ []) keycaps
unfolding read
a_property_of_strings_beside_a_digit = refl

-- The longest string is first; of equal length, the one that was parsed first.
strings_are_tried_longest_first : longest_first (codes "abc" ∷ codes "de" ∷ codes "fgh" ∷ [])
    ≡ codes "abc" ∷ codes "fgh" ∷ codes "de" ∷ []
strings_are_tried_longest_first = refl

-- ---- classes in a class, and operators

-- The list has the members that pass the test.
listed : (members : List Bounds) (test : ℕ → Bool) → IsCanonical members →
    ((c : ℕ) → c ≤ code_point_max → is_member members c ≡ test c) → intervals_of test ≡ members
listed members test canonical same = sym (canonical_is members test canonical same)

two_nesting_inside : Nests (codes "[a][[b]]]") (one 97 ∷ one 98 ∷ []) 2
unfolding read
two_nesting_inside = refl

all_but_a : complement (one 97 ∷ []) ≡ run 0 96 ∷ run 98 code_point_max ∷ []
unfolding is_member is_within
all_but_a = listed _ (λ c. not (is_member (one 97 ∷ []) c)) refl (λ c h. grind (arith, nat_tests, h))

a_complement_inside : Nests (codes "[^a]b]") (run 0 96 ∷ run 98 code_point_max ∷ one 98 ∷ []) 1
unfolding read
a_complement_inside = rw all_but_a refl

words_but_digits : intervals_of (λ c. is_member word_characters c && not (is_member digits c))
    ≡ run 0x41 0x5A ∷ one 0x5F ∷ run 0x61 0x7A ∷ []
unfolding is_member is_within
words_but_digits =
    listed _ (λ c. is_member word_characters c && not (is_member digits c)) refl (λ c h. grind (arith, nat_tests))

a_difference : Holds (codes "\\w--\\d]") (run 0x41 0x5A ∷ one 0x5F ∷ run 0x61 0x7A ∷ []) []
unfolding read
a_difference = rw words_but_digits refl

abbrev vowels : List Bounds
vowels = one 97 ∷ one 101 ∷ one 105 ∷ one 111 ∷ one 117 ∷ []

abbrev small_letters : List Bounds
small_letters = run 0x61 0x7A ∷ []

abbrev consonants : List Bounds
consonants = run 98 100 ∷ run 102 104 ∷ run 106 110 ∷ run 112 116 ∷ run 118 122 ∷ []

consonants_are : (c : ℕ) → is_member consonants c ≡ (is_member small_letters c && not (is_member vowels c))
unfolding is_member is_within
consonants_are c = grind (arith, nat_tests)

letters_but_vowels : intervals_of (λ c. is_member small_letters c && is_member (complement vowels) c) ≡ consonants
letters_but_vowels =
    listed _ (λ c. is_member small_letters c && is_member (complement vowels) c) refl
    (λ c h. consonants_are c
    ∙ ap (λ there. is_member small_letters c && there) (sym (intervals_of-member (λ d. not (is_member vowels d)) c h)))

an_intersection_with_a_complement : Nests (codes "[a-z]&&[^aeiou]]") consonants 1
unfolding read
an_intersection_with_a_complement = rw letters_but_vowels refl

nothing_common : intervals_of (λ c. is_member (one 97 ∷ []) c && is_member (one 98 ∷ []) c) ≡ []
unfolding is_member is_within
nothing_common = listed [] (λ c. is_member (one 97 ∷ []) c && is_member (one 98 ∷ []) c) refl (λ c h. grind (arith, nat_tests))

an_intersection_keeps_the_empty_string_of_both : HoldsEmpty (codes "\\q{|a}&&\\q{b|}]") [] []
unfolding read
an_intersection_keeps_the_empty_string_of_both = rw nothing_common refl

no_points : intervals_of (λ c. is_member [] c && is_member [] c) ≡ []
unfolding is_member
no_points = listed [] (λ c. is_member [] c && is_member [] c) refl (λ c h. refl)

an_intersection_lacks_the_empty_string_of_one : Holds (codes "\\q{|ab}&&\\q{ab|cd}]") [] (codes "ab" ∷ [])
unfolding read
an_intersection_lacks_the_empty_string_of_one = rw no_points refl

only_a : intervals_of (λ c. is_member (one 97 ∷ []) c && not (is_member [] c)) ≡ one 97 ∷ []
unfolding is_member is_within
only_a = listed _ (λ c. is_member (one 97 ∷ []) c && not (is_member [] c)) refl (λ c h. grind (arith, nat_tests))

a_difference_lacks_the_empty_string_of_the_second : Holds (codes "\\q{a|}--\\q{}]") (one 97 ∷ []) []
unfolding read
a_difference_lacks_the_empty_string_of_the_second = rw only_a refl

a_difference_keeps_the_empty_string_of_the_first : HoldsEmpty (codes "\\q{a|}--\\q{bc}]") (one 97 ∷ []) []
unfolding read
a_difference_keeps_the_empty_string_of_the_first = rw only_a refl

-- ---- rejected classes

a_hyphen_after_an_ampersand : ReadsNothing (codes "a&-c]")
unfolding read
a_hyphen_after_an_ampersand = refl

a_range_without_an_end : ReadsNothing (codes "a-]]")
unfolding read
a_range_without_an_end = refl

a_range_that_ends_with_a_class : ReadsNothing (codes "a-\\d]")
unfolding read
a_range_that_ends_with_a_class = refl

a_range_that_ends_before_it_begins : ReadsNothing (codes "c-a]")
unfolding read
a_range_that_ends_before_it_begins = refl

an_operator_without_a_first_operand : ReadsNothing (codes "&&a]")
unfolding read
an_operator_without_a_first_operand = refl

a_single_ampersand_after_an_operator : ReadsNothing (codes "a&&b&c]")
unfolding read
a_single_ampersand_after_an_operator = refl

two_operands_after_an_intersection : ReadsNothing (codes "a&&bc]")
unfolding read
two_operands_after_an_intersection = refl

two_operands_after_a_difference : ReadsNothing (codes "a--bc]")
unfolding read
two_operands_after_a_difference = refl

an_operator_at_the_end : ReadsNothing (codes "a&&")
unfolding read
an_operator_at_the_end = refl

a_class_without_its_end : ReadsNothing (codes "a")
unfolding read
a_class_without_its_end = refl

a_backslash_at_the_end : ReadsNothing (codes "\\")
unfolding read
a_backslash_at_the_end = refl

strings_without_a_brace : ReadsNothing (codes "\\qa]")
unfolding read
strings_without_a_brace = refl

strings_without_their_end : ReadsNothing (codes "\\q{a")
unfolding read
strings_without_their_end = refl

a_bracket_in_a_string : ReadsNothing (codes "\\q{[}]")
unfolding read
a_bracket_in_a_string = refl

a_negated_class_of_strings : ReadsNothing (codes "^\\q{ab}]")
unfolding read
a_negated_class_of_strings = refl

a_negated_class_of_strings_inside : ReadsNothing (codes "[^\\q{ab}]]")
unfolding read
a_negated_class_of_strings_inside = refl

a_negated_class_of_the_empty_string : ReadsNothing (codes "^\\q{}]")
unfolding read
a_negated_class_of_the_empty_string = refl

a_negated_class_of_the_empty_string_inside : ReadsNothing (codes "[^\\q{a|}]]")
unfolding read
a_negated_class_of_the_empty_string_inside = refl

a_property_of_strings_in_a_negated_class : ReadsNothing (codes "^\\p{Emoji_Keycap_Sequence}]")
unfolding read
a_property_of_strings_in_a_negated_class = refl

a_complement_of_a_property_of_strings : ReadsNothing (codes "\\P{Emoji_Keycap_Sequence}]")
unfolding read
a_complement_of_a_property_of_strings = refl

-- ---- properties

-- the whole source is this property, with or without the flag v
abbrev Names : (sets : Bool) → Source → Property → Type 0
Names sets t property = property_at sets small_table t ≡ Some (property, [])

abbrev NamesNothing : (sets : Bool) → Source → Type 0
NamesNothing sets t = property_at sets small_table t ≡ None

a_general_category : Names false (codes "{gc=Zl}") (of_points (one 0x2028 ∷ []))
unfolding property_at named front after small_table
a_general_category = refl

a_general_category_by_its_value_alone : Names false (codes "{Zl}") (of_points (one 0x2028 ∷ []))
unfolding property_at named front after small_table
a_general_category_by_its_value_alone = refl

a_script : Names false (codes "{sc=Ogam}") (of_points (run 0x1680 0x169C ∷ []))
unfolding property_at named front after small_table
a_script = refl

a_binary_property : Names false (codes "{ASCII_Hex_Digit}") (of_points (run 0x30 0x39 ∷ run 0x41 0x46 ∷ run 0x61 0x66 ∷ []))
unfolding property_at named front after small_table
a_binary_property = refl

a_property_of_strings_with_v : Names true (codes "{Emoji_Keycap_Sequence}") (of_strings keycaps)
unfolding property_at named front after small_table
a_property_of_strings_with_v = refl

no_property_of_strings_without_v : NamesNothing false (codes "{Emoji_Keycap_Sequence}")
unfolding property_at named front after small_table
no_property_of_strings_without_v = refl

no_property_of_an_unknown_name : NamesNothing true (codes "{Foo}")
unfolding property_at named front after small_table
no_property_of_an_unknown_name = refl

a_binary_property_is_no_general_category : NamesNothing true (codes "{gc=ASCII}")
unfolding property_at named front after small_table
a_binary_property_is_no_general_category = refl

a_general_category_is_no_script : NamesNothing true (codes "{sc=Zl}")
unfolding property_at named front after small_table
a_general_category_is_no_script = refl

no_property_without_its_last_brace : NamesNothing true (codes "{Zl")
unfolding property_at named front after small_table
no_property_without_its_last_brace = refl

no_property_without_its_first_brace : NamesNothing true (codes "Zl}")
unfolding property_at named front after small_table
no_property_without_its_first_brace = refl

-- ---- marks

with_v_a_class_says_how_deep_it_is : tokens true small_table plain (codes "[[\\(]b]\\1(a)") ≡ nests 1 ∷ captures None ∷ closes ∷ []
unfolding tokens
with_v_a_class_says_how_deep_it_is = refl

-- The class ends at its first `]`.
without_v_a_class_has_no_mark : tokens false small_table plain (codes "[[\\(]b]\\1(a)") ≡ captures None ∷ closes ∷ []
unfolding tokens
without_v_a_class_has_no_mark = refl
