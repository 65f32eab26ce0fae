-- Examples: the flags that the modifiers of a group switch, and where.
use Rattle.std.proofs.Common.{[], ◌∷◌, refl, codes}
use Rattle.regress_tree.specs.Steps.{Setting}
use Rattle.example_definitions.proofs.CharacterSets.{few_letters, a_in_two_cases, b_in_two_cases}
use Rattle.example_definitions.proofs.CharacterMeanings.{few_icase}
use Rattle.example_definitions.proofs.Meanings.{plain, dot_all, icase_unicode, Gives, from, at, span}

abbrev few_plain : Setting
few_plain = record plain { table = few_letters }

-- ---- the flag i

i_is_on_inside : Gives few_plain (codes "(?i:a)b") (codes "Ab") (from 0 (at 2 [] ∷ []) ∷ from 1 [] ∷ from 2 [] ∷ [])
unfolding Gives
i_is_on_inside = (refl, rw a_in_two_cases refl)

i_is_off_after : Gives few_plain (codes "(?i:a)b") (codes "AB") (from 0 [] ∷ from 1 [] ∷ from 2 [] ∷ [])
unfolding Gives
i_is_off_after = (refl, rw a_in_two_cases refl)

i_is_on_again_after : Gives few_icase (codes "(?-i:a)b") (codes "aB")
    (from 0 (at 2 [] ∷ []) ∷ from 1 [] ∷ from 2 [] ∷ [])
unfolding Gives
i_is_on_again_after = (refl, rw b_in_two_cases refl)

i_is_off_inside : Gives few_icase (codes "(?-i:a)b") (codes "AB") (from 0 [] ∷ from 1 [] ∷ from 2 [] ∷ [])
unfolding Gives
i_is_off_inside = (refl, refl)

a_reference_goes_by_the_flags_around_it : Gives few_plain (codes "(a)(?i:\\1)") (codes "aA")
    (from 0 (at 2 (span 0 1 ∷ []) ∷ []) ∷ from 1 [] ∷ from 2 [] ∷ [])
unfolding Gives
a_reference_goes_by_the_flags_around_it = (refl, refl)

a_reference_inside_heeds_case : Gives few_icase (codes "(?-i:(a)\\1)") (codes "aA")
    (from 0 [] ∷ from 1 [] ∷ from 2 [] ∷ [])
unfolding Gives
a_reference_inside_heeds_case = (refl, refl)

words_inside_lack_the_long_s : Gives icase_unicode (codes "(?-i:\\b)") (0x17F ∷ []) (from 0 [] ∷ from 1 [] ∷ [])
unfolding Gives
words_inside_lack_the_long_s = (refl, refl)

-- ---- the flags s and m

s_is_off_inside : Gives dot_all (codes "(?-s:.)") (0xA ∷ []) (from 0 [] ∷ from 1 [] ∷ [])
unfolding Gives
s_is_off_inside = (refl, refl)

s_is_on_inside : Gives plain (codes "(?s:.).") (0xA ∷ 0xA ∷ []) (from 0 [] ∷ from 1 [] ∷ from 2 [] ∷ [])
unfolding Gives
s_is_on_inside = (refl, refl)

m_is_off_after : Gives plain (codes "(?m:^)a|^b") (0xA ∷ 98 ∷ []) (from 0 [] ∷ from 1 [] ∷ from 2 [] ∷ [])
unfolding Gives
m_is_off_after = (refl, refl)
