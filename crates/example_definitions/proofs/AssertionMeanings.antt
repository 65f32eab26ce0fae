-- Examples: where anchors and word boundaries match.
use Rattle.std.proofs.Common.{[], ◌∷◌, refl, codes}
use Rattle.example_definitions.proofs.Meanings.{plain, multiline, icase, unicode, icase_unicode, Gives, from, at}

-- ---- `^` and `$`

the_empty_text_has_a_start : Gives plain (codes "^") [] (from 0 (at 0 [] ∷ []) ∷ [])
unfolding Gives
the_empty_text_has_a_start = (refl, refl)

the_start_is_that_of_the_text : Gives plain (codes "^a") (codes "ba") (from 0 [] ∷ from 1 [] ∷ from 2 [] ∷ [])
unfolding Gives
the_start_is_that_of_the_text = (refl, refl)

the_end_is_that_of_the_text : Gives plain (codes "a$") (97 ∷ 0xA ∷ []) (from 0 [] ∷ from 1 [] ∷ from 2 [] ∷ [])
unfolding Gives
the_end_is_that_of_the_text = (refl, refl)

-- ---- `^` and `$` with the flag m

no_line_starts_beside_its_first_position : Gives multiline (codes "^a") (98 ∷ 0xA ∷ 97 ∷ [])
    (from 0 [] ∷ from 1 [] ∷ from 3 [] ∷ [])
unfolding Gives
no_line_starts_beside_its_first_position = (refl, refl)

a_line_starts_after_a_paragraph_separator : Gives multiline (codes "^") (0x2029 ∷ 97 ∷ [])
    (from 0 (at 0 [] ∷ []) ∷ from 1 (at 1 [] ∷ []) ∷ from 2 [] ∷ [])
unfolding Gives
a_line_starts_after_a_paragraph_separator = (refl, refl)

a_line_ends_before_a_line_feed : Gives multiline (codes "a$") (97 ∷ 0xA ∷ 98 ∷ [])
    (from 0 (at 1 [] ∷ []) ∷ from 1 [] ∷ from 3 [] ∷ [])
unfolding Gives
a_line_ends_before_a_line_feed = (refl, refl)

a_line_ends_on_both_sides_of_a_carriage_return : Gives multiline (codes "$") (0xD ∷ 0xA ∷ [])
    (from 0 (at 0 [] ∷ []) ∷ from 1 (at 1 [] ∷ []) ∷ from 2 (at 2 [] ∷ []) ∷ [])
unfolding Gives
a_line_ends_on_both_sides_of_a_carriage_return = (refl, refl)

-- ---- `\b` and `\B`

boundaries_are_where_words_start_and_end : Gives plain (codes "\\b") (codes "a b")
    (from 0 (at 0 [] ∷ []) ∷ from 1 (at 1 [] ∷ []) ∷ from 3 (at 3 [] ∷ []) ∷ [])
unfolding Gives
boundaries_are_where_words_start_and_end = (refl, refl)

inverted_they_are_where_no_word_starts_or_ends : Gives plain (codes "\\B") (codes "a b")
    (from 0 [] ∷ from 1 [] ∷ from 3 [] ∷ [])
unfolding Gives
inverted_they_are_where_no_word_starts_or_ends = (refl, refl)

a_boundary_takes_no_character : Gives plain (codes "\\ba") (codes "a") (from 0 (at 1 [] ∷ []) ∷ from 1 [] ∷ [])
unfolding Gives
a_boundary_takes_no_character = (refl, refl)

-- ECMA-262 allows no quantifier here.
a_boundary_may_be_repeated : Gives plain (codes "\\b+") (codes "a") (from 0 (at 0 [] ∷ []) ∷ from 1 (at 1 [] ∷ []) ∷ [])
unfolding Gives
a_boundary_may_be_repeated = (refl, refl)

with_i_and_u_words_hold_the_long_s : Gives icase_unicode (codes "\\b") (0x17F ∷ [])
    (from 0 (at 0 [] ∷ []) ∷ from 1 (at 1 [] ∷ []) ∷ [])
unfolding Gives
with_i_and_u_words_hold_the_long_s = (refl, refl)

with_i_alone_words_lack_the_long_s : Gives icase (codes "\\b") (0x17F ∷ []) (from 0 [] ∷ from 1 [] ∷ [])
unfolding Gives
with_i_alone_words_lack_the_long_s = (refl, refl)

with_u_alone_words_lack_the_long_s : Gives unicode (codes "\\b") (0x17F ∷ []) (from 0 [] ∷ from 1 [] ∷ [])
unfolding Gives
with_u_alone_words_lack_the_long_s = (refl, refl)
