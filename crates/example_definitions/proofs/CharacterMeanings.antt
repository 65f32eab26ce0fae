-- Examples: what escapes, classes, and literals with the flag i match.
use Rattle.std.proofs.Common.{[], ◌∷◌, refl, codes}
use Rattle.regress_base.specs.Classes.{digits, word_characters}
use Rattle.regress_tree.specs.Steps.{Setting}
use Rattle.example_definitions.proofs.CharacterSets.{own_set, no_digits_set, spaces_set, no_spaces_set, hyphen_set, few_letters, k_in_two_cases, e_acute_in_two_cases, long_s_alone, k_with_u, s_with_u, theta_with_u, k_set, only_s, closed_words_set}
use Rattle.example_definitions.proofs.Meanings.{run, plain, unicode, icase, icase_unicode, Gives, from, at}

-- ---- escapes

hexadecimal_digits_give_a_character : Gives plain (codes "\\x41\\u0042") (codes "AB")
    (from 0 (at 2 [] ∷ []) ∷ from 1 [] ∷ from 2 [] ∷ [])
unfolding Gives
hexadecimal_digits_give_a_character = (refl, refl)

braces_give_a_character_with_u : Gives unicode (codes "\\u{1F600}") (0x1F600 ∷ [])
    (from 0 (at 1 [] ∷ []) ∷ from 1 [] ∷ [])
unfolding Gives
braces_give_a_character_with_u = (refl, refl)

a_control_letter_gives_a_character : Gives plain (codes "\\cJ") (0xA ∷ []) (from 0 (at 1 [] ∷ []) ∷ from 1 [] ∷ [])
unfolding Gives
a_control_letter_gives_a_character = (refl, refl)

without_a_control_letter_the_backslash_is_one : Gives plain (codes "\\c") (codes "\\c")
    (from 0 (at 2 [] ∷ []) ∷ from 1 [] ∷ from 2 [] ∷ [])
unfolding Gives
without_a_control_letter_the_backslash_is_one = (refl, refl)

zero_gives_the_null_character : Gives plain (codes "\\0") (0x0 ∷ []) (from 0 (at 1 [] ∷ []) ∷ from 1 [] ∷ [])
unfolding Gives
zero_gives_the_null_character = (refl, refl)

-- ---- class escapes

digits_may_be_repeated : Gives plain (codes "\\d+") (codes "12a")
    (from 0 (at 2 [] ∷ at 1 [] ∷ []) ∷ from 1 (at 2 [] ∷ []) ∷ from 3 [] ∷ [])
unfolding Gives
digits_may_be_repeated = (refl, rw (own_set digits refl) refl)

a_digit_is_not_in_the_complement : Gives plain (codes "\\D") (codes "1") (from 0 [] ∷ from 1 [] ∷ [])
unfolding Gives
a_digit_is_not_in_the_complement = (refl, rw no_digits_set refl)

a_no_break_space_of_no_width_is_a_space : Gives plain (codes "\\s") (0xFEFF ∷ [])
    (from 0 (at 1 [] ∷ []) ∷ from 1 [] ∷ [])
unfolding Gives
a_no_break_space_of_no_width_is_a_space = (refl, rw spaces_set refl)

a_paragraph_separator_is_a_space : Gives plain (codes "\\S") (0x2029 ∷ []) (from 0 [] ∷ from 1 [] ∷ [])
unfolding Gives
a_paragraph_separator_is_a_space = (refl, rw no_spaces_set refl)

the_long_s_is_no_word_character : Gives plain (codes "\\w") (0x17F ∷ []) (from 0 [] ∷ from 1 [] ∷ [])
unfolding Gives
the_long_s_is_no_word_character = (refl, rw (own_set word_characters refl) refl)

-- ---- classes in brackets

the_empty_class_holds_nothing : Gives plain (codes "[]") (codes "a") (from 0 [] ∷ from 1 [] ∷ [])
unfolding Gives
the_empty_class_holds_nothing = (refl, rw (own_set [] refl) refl)

the_empty_class_inverted_holds_all : Gives plain (codes "[^]") (0xA ∷ []) (from 0 (at 1 [] ∷ []) ∷ from 1 [] ∷ [])
unfolding Gives
the_empty_class_inverted_holds_all = (refl, rw (own_set [] refl) refl)

a_range_may_be_repeated : Gives plain (codes "[a-c]+") (codes "abd")
    (from 0 (at 2 [] ∷ at 1 [] ∷ []) ∷ from 1 (at 2 [] ∷ []) ∷ from 3 [] ∷ [])
unfolding Gives
a_range_may_be_repeated = (refl, rw (own_set (run 97 99 ∷ []) refl) refl)

after_a_class_a_hyphen_is_one : Gives plain (codes "[\\d-z]") (codes "-") (from 0 (at 1 [] ∷ []) ∷ from 1 [] ∷ [])
unfolding Gives
after_a_class_a_hyphen_is_one = (refl, rw hyphen_set refl)

-- ---- literals with the flag i

abbrev pub few_icase : Setting
few_icase = record icase { table = few_letters }

abbrev pub few_icase_unicode : Setting
few_icase_unicode = record icase_unicode { table = few_letters }

a_small_letter_matches_its_capital : Gives few_icase (codes "k") (codes "K") (from 0 (at 1 [] ∷ []) ∷ from 1 [] ∷ [])
unfolding Gives
a_small_letter_matches_its_capital = (refl, rw k_in_two_cases refl)

a_letter_past_ascii_matches_its_capital : Gives few_icase (0xE9 ∷ []) (0xC9 ∷ [])
    (from 0 (at 1 [] ∷ []) ∷ from 1 [] ∷ [])
unfolding Gives
a_letter_past_ascii_matches_its_capital = (refl, rw e_acute_in_two_cases refl)

without_u_k_does_not_match_the_kelvin_sign : Gives few_icase (codes "k") (0x212A ∷ []) (from 0 [] ∷ from 1 [] ∷ [])
unfolding Gives
without_u_k_does_not_match_the_kelvin_sign = (refl, rw k_in_two_cases refl)

with_u_k_matches_the_kelvin_sign : Gives few_icase_unicode (codes "k") (0x212A ∷ [])
    (from 0 (at 1 [] ∷ []) ∷ from 1 [] ∷ [])
unfolding Gives
with_u_k_matches_the_kelvin_sign = (refl, rw k_with_u refl)

without_u_the_long_s_does_not_match_s : Gives few_icase (0x17F ∷ []) (codes "s") (from 0 [] ∷ from 1 [] ∷ [])
unfolding Gives
without_u_the_long_s_does_not_match_s = (refl, rw long_s_alone refl)

with_u_the_long_s_matches_s : Gives few_icase_unicode (0x17F ∷ []) (codes "s") (from 0 (at 1 [] ∷ []) ∷ from 1 [] ∷ [])
unfolding Gives
with_u_the_long_s_matches_s = (refl, rw s_with_u refl)

with_u_theta_matches_the_theta_symbol : Gives few_icase_unicode (0x3B8 ∷ []) (0x3F4 ∷ [])
    (from 0 (at 1 [] ∷ []) ∷ from 1 [] ∷ [])
unfolding Gives
with_u_theta_matches_the_theta_symbol = (refl, rw theta_with_u refl)

-- ---- classes with the flag i

with_i_a_class_holds_the_capital : Gives few_icase (codes "[k]") (codes "K") (from 0 (at 1 [] ∷ []) ∷ from 1 [] ∷ [])
unfolding Gives
with_i_a_class_holds_the_capital = (refl, rw k_set refl)

with_i_inversion_comes_last : Gives few_icase (codes "[^k]") (codes "K") (from 0 [] ∷ from 1 [] ∷ [])
unfolding Gives
with_i_inversion_comes_last = (refl, rw k_set refl)

with_i_and_u_a_class_holds_the_kelvin_sign : Gives few_icase_unicode (codes "[k]") (0x212A ∷ [])
    (from 0 (at 1 [] ∷ []) ∷ from 1 [] ∷ [])
unfolding Gives
with_i_and_u_a_class_holds_the_kelvin_sign = (refl, rw k_set refl)

with_i_and_u_inversion_comes_last : Gives few_icase_unicode (codes "[^k]") (0x212A ∷ []) (from 0 [] ∷ from 1 [] ∷ [])
unfolding Gives
with_i_and_u_inversion_comes_last = (refl, rw k_set refl)

-- ---- `\w` and `\b` with the flags i and u

abbrev s_icase_unicode : Setting
s_icase_unicode = record icase_unicode { table = only_s }

with_i_and_u_the_long_s_is_a_word_character : Gives s_icase_unicode (codes "\\w") (0x17F ∷ [])
    (from 0 (at 1 [] ∷ []) ∷ from 1 [] ∷ [])
unfolding Gives
with_i_and_u_the_long_s_is_a_word_character = (refl, rw closed_words_set refl)

with_i_and_u_word_characters_in_a_class_hold_the_long_s : Gives s_icase_unicode (codes "[\\w]") (0x17F ∷ [])
    (from 0 (at 1 [] ∷ []) ∷ from 1 [] ∷ [])
unfolding Gives
with_i_and_u_word_characters_in_a_class_hold_the_long_s = (refl, rw closed_words_set refl)
