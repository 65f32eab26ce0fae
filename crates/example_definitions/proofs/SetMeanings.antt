-- Examples: what classes with the flag v and properties match: strings, operators, and nested classes.
use Rattle.std.proofs.Common.{true, [], ◌∷◌, refl, codes}
use Rattle.regress_tree.specs.Steps.{Setting}
use Rattle.example_definitions.proofs.CharacterSets.{own_set, few_letters, k_set, closed_nothing, words_but_digits, words_but_digits_set, consonants, consonants_set}
use Rattle.example_definitions.proofs.Meanings.{run, no_flags, plain, unicode, Gives, from, at, span}

-- settings with the flag v
abbrev with_v : Setting
with_v = record plain { flags = record no_flags { unicode_sets = true } }

abbrev unicode_with_v : Setting
unicode_with_v = record unicode { flags = record no_flags { unicode = true; unicode_sets = true } }

abbrev few_icase_with_v : Setting
few_icase_with_v = record { flags = record no_flags { icase = true; unicode_sets = true }; table = few_letters }

-- ---- strings

a_class_tries_strings_and_then_characters : Gives with_v (codes "[\\q{abc|ab|a}]") (codes "abc")
    (from 0 (at 3 [] ∷ at 2 [] ∷ at 1 [] ∷ []) ∷ from 1 [] ∷ from 3 [] ∷ [])
unfolding Gives
a_class_tries_strings_and_then_characters = (refl, rw (own_set (run 97 97 ∷ []) refl) refl)

the_longest_string_comes_first_and_is_given_back : Gives with_v (codes "[\\q{ab|abc}]c") (codes "abc")
    (from 0 (at 3 [] ∷ []) ∷ from 1 [] ∷ from 3 [] ∷ [])
unfolding Gives
the_longest_string_comes_first_and_is_given_back = (refl, rw (own_set [] refl) refl)

a_class_takes_a_string_of_two : Gives with_v (codes "[a\\q{xy}]") (codes "xy")
    (from 0 (at 2 [] ∷ []) ∷ from 1 [] ∷ from 2 [] ∷ [])
unfolding Gives
a_class_takes_a_string_of_two = (refl, rw (own_set (run 97 97 ∷ []) refl) refl)

beside_a_string_a_class_takes_a_character : Gives with_v (codes "[a\\q{xy}]") (codes "a")
    (from 0 (at 1 [] ∷ []) ∷ from 1 [] ∷ [])
unfolding Gives
beside_a_string_a_class_takes_a_character = (refl, rw (own_set (run 97 97 ∷ []) refl) refl)

with_i_a_string_matches_its_capitals : Gives few_icase_with_v (codes "[\\q{ab}]") (codes "AB")
    (from 0 (at 2 [] ∷ []) ∷ from 1 [] ∷ from 2 [] ∷ [])
unfolding Gives
with_i_a_string_matches_its_capitals = (refl, rw closed_nothing refl)

a_negated_class_lacks_its_string_of_one : Gives with_v (codes "[^\\q{a}]") (codes "a") (from 0 [] ∷ from 1 [] ∷ [])
unfolding Gives
a_negated_class_lacks_its_string_of_one = (refl, rw (own_set (run 97 97 ∷ []) refl) refl)

backwards_a_class_takes_its_strings_too : Gives with_v (codes "(?<=[\\q{ab|b}])") (codes "ab")
    (from 0 [] ∷ from 1 [] ∷ from 2 (at 2 [] ∷ []) ∷ [])
unfolding Gives
backwards_a_class_takes_its_strings_too = (refl, rw (own_set (run 98 98 ∷ []) refl) refl)

a_class_of_strings_may_be_repeated : Gives with_v (codes "[\\q{ab|a}]*") (codes "aba")
    (from 0 (at 3 [] ∷ at 2 [] ∷ at 1 [] ∷ at 0 [] ∷ []) ∷ from 1 (at 1 [] ∷ []) ∷ from 3 (at 3 [] ∷ []) ∷ [])
unfolding Gives
a_class_of_strings_may_be_repeated = (refl, rw (own_set (run 97 97 ∷ []) refl) refl)

each_iteration_may_take_another_string : Gives with_v (codes "[\\q{ab|ba}]{2}") (codes "abba")
    (from 0 (at 4 [] ∷ []) ∷ from 2 [] ∷ from 4 [] ∷ [])
unfolding Gives
each_iteration_may_take_another_string = (refl, rw (own_set [] refl) refl)

the_empty_string_matches_everywhere : Gives with_v (codes "[\\q{}]") (codes "a") (from 0 (at 0 [] ∷ []) ∷ from 1 (at 1 [] ∷ []) ∷ [])
unfolding Gives
the_empty_string_matches_everywhere = (refl, rw (own_set [] refl) refl)

the_empty_string_comes_after_strings_and_characters : Gives with_v (codes "[a\\q{|ab}]") (codes "ab")
    (from 0 (at 2 [] ∷ at 1 [] ∷ at 0 [] ∷ []) ∷ from 1 (at 1 [] ∷ []) ∷ from 2 (at 2 [] ∷ []) ∷ [])
unfolding Gives
the_empty_string_comes_after_strings_and_characters = (refl, rw (own_set (run 97 97 ∷ []) refl) refl)

backwards_the_empty_string_comes_last_too : Gives with_v (codes "(?<=([\\q{|b}]))") (codes "b")
    (from 0 (at 0 (span 0 0 ∷ []) ∷ []) ∷ from 1 (at 1 (span 0 1 ∷ []) ∷ []) ∷ [])
unfolding Gives
backwards_the_empty_string_comes_last_too = (refl, rw (own_set (run 98 98 ∷ []) refl) refl)

an_iteration_of_the_empty_string_ends_a_loop : Gives with_v (codes "[\\q{a|}]*") (codes "aa")
    (from 0 (at 2 [] ∷ at 1 [] ∷ at 0 [] ∷ []) ∷ from 1 (at 2 [] ∷ at 1 [] ∷ []) ∷ from 2 (at 2 [] ∷ []) ∷ [])
unfolding Gives
an_iteration_of_the_empty_string_ends_a_loop = (refl, rw (own_set (run 97 97 ∷ []) refl) refl)

-- ---- operators and complements

an_intersection_holds_what_both_hold : Gives with_v (codes "[[a-z]&&[^aeiou]]") (codes "b")
    (from 0 (at 1 [] ∷ []) ∷ from 1 [] ∷ [])
unfolding Gives
an_intersection_holds_what_both_hold = (rw consonants_set refl, rw (consonants_set, own_set consonants refl) refl)

an_intersection_lacks_what_one_lacks : Gives with_v (codes "[[a-z]&&[^aeiou]]") (codes "e") (from 0 [] ∷ from 1 [] ∷ [])
unfolding Gives
an_intersection_lacks_what_one_lacks = (rw consonants_set refl, rw (consonants_set, own_set consonants refl) refl)

a_difference_lacks_what_the_second_holds : Gives with_v (codes "[\\w--\\d]") (codes "1") (from 0 [] ∷ from 1 [] ∷ [])
unfolding Gives
a_difference_lacks_what_the_second_holds =
    (rw words_but_digits_set refl, rw (words_but_digits_set, own_set words_but_digits refl) refl)

with_i_and_v_inversion_comes_last : Gives few_icase_with_v (codes "[^k]") (codes "K") (from 0 [] ∷ from 1 [] ∷ [])
unfolding Gives
with_i_and_v_inversion_comes_last = (refl, rw k_set refl)

-- ---- properties

a_property_of_strings_takes_three_characters : Gives unicode_with_v (codes "\\p{Emoji_Keycap_Sequence}") (0x31 ∷ 0xFE0F ∷ 0x20E3 ∷ [])
    (from 0 (at 3 [] ∷ []) ∷ from 1 [] ∷ from 3 [] ∷ [])
unfolding Gives
a_property_of_strings_takes_three_characters = (refl, refl)

in_a_class_a_property_of_strings_comes_first : Gives unicode_with_v (codes "[\\p{Emoji_Keycap_Sequence}1]") (0x31 ∷ 0xFE0F ∷ 0x20E3 ∷ [])
    (from 0 (at 3 [] ∷ at 1 [] ∷ []) ∷ from 1 [] ∷ from 3 [] ∷ [])
unfolding Gives
in_a_class_a_property_of_strings_comes_first = (refl, rw (own_set (run 0x31 0x31 ∷ []) refl) refl)

a_property_takes_what_it_holds : Gives unicode_with_v (codes "\\p{Zl}") (0x2028 ∷ []) (from 0 (at 1 [] ∷ []) ∷ from 1 [] ∷ [])
unfolding Gives
a_property_takes_what_it_holds = (refl, rw (own_set (run 0x2028 0x2028 ∷ []) refl) refl)

a_complement_lacks_what_the_property_holds : Gives unicode_with_v (codes "\\P{Zl}") (0x2028 ∷ []) (from 0 [] ∷ from 1 [] ∷ [])
unfolding Gives
a_complement_lacks_what_the_property_holds = (refl, rw (own_set (run 0x2028 0x2028 ∷ []) refl) refl)
