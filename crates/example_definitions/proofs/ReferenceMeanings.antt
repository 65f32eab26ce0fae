-- Examples: what references by number and by name match.
use Rattle.std.proofs.Common.{[], ◌∷◌, refl, codes}
use Rattle.example_definitions.proofs.CharacterSets.{a_in_two_cases, k_in_two_cases, k_with_u}
use Rattle.example_definitions.proofs.CharacterMeanings.{few_icase, few_icase_unicode}
use Rattle.example_definitions.proofs.Meanings.{plain, named, Gives, from, at, unset, span}

-- ---- by number

a_reference_matches_what_its_group_captured : Gives plain (codes "(a)\\1") (codes "aa")
    (from 0 (at 2 (span 0 1 ∷ []) ∷ []) ∷ from 1 [] ∷ from 2 [] ∷ [])
unfolding Gives
a_reference_matches_what_its_group_captured = (refl, refl)

a_reference_to_an_unset_group_matches_nothing : Gives plain (codes "(a)|\\1b") (codes "b")
    (from 0 (at 1 (unset ∷ []) ∷ []) ∷ from 1 [] ∷ [])
unfolding Gives
a_reference_to_an_unset_group_matches_nothing = (refl, refl)

a_reference_may_come_before_its_group : Gives plain (codes "\\1(a)") (codes "a")
    (from 0 (at 1 (span 0 1 ∷ []) ∷ []) ∷ from 1 [] ∷ [])
unfolding Gives
a_reference_may_come_before_its_group = (refl, refl)

a_group_is_unset_inside_itself : Gives plain (codes "(a\\1)") (codes "a")
    (from 0 (at 1 (span 0 1 ∷ []) ∷ []) ∷ from 1 [] ∷ [])
unfolding Gives
a_group_is_unset_inside_itself = (refl, refl)

a_reference_follows_each_capture : Gives plain (codes "(a*)\\1") (codes "aaaa")
    (from 0 (at 4 (span 0 2 ∷ []) ∷ at 2 (span 0 1 ∷ []) ∷ at 0 (span 0 0 ∷ []) ∷ []) ∷
    from 2 (at 4 (span 2 3 ∷ []) ∷ at 2 (span 2 2 ∷ []) ∷ []) ∷
    from 4 (at 4 (span 4 4 ∷ []) ∷ []) ∷ [])
unfolding Gives
a_reference_follows_each_capture = (refl, refl)

a_reference_to_an_empty_capture_matches_nothing : Gives plain (codes "()\\1") []
    (from 0 (at 0 (span 0 0 ∷ []) ∷ []) ∷ [])
unfolding Gives
a_reference_to_an_empty_capture_matches_nothing = (refl, refl)

-- ---- in loops

an_iteration_unsets_the_group_that_it_refers_to : Gives plain (codes "(?:(a)|b\\1)+") (codes "ab")
    (from 0 (at 2 (unset ∷ []) ∷ at 1 (span 0 1 ∷ []) ∷ []) ∷ from 1 (at 2 (unset ∷ []) ∷ []) ∷ from 2 [] ∷ [])
unfolding Gives
an_iteration_unsets_the_group_that_it_refers_to = (refl, refl)

no_capture_of_an_iteration_before_is_referred_to : Gives plain (codes "(?:(a)|(b)\\1)*") (codes "aba")
    (from 0 (at 3 (span 2 3 ∷ unset ∷ []) ∷ at 2 (unset ∷ span 1 2 ∷ []) ∷ at 1 (span 0 1 ∷ unset ∷ []) ∷
    at 0 (unset ∷ unset ∷ []) ∷ []) ∷
    from 1 (at 3 (span 2 3 ∷ unset ∷ []) ∷ at 2 (unset ∷ span 1 2 ∷ []) ∷ at 1 (unset ∷ unset ∷ []) ∷ []) ∷
    from 3 (at 3 (unset ∷ unset ∷ []) ∷ []) ∷ [])
unfolding Gives
no_capture_of_an_iteration_before_is_referred_to = (refl, refl)

no_later_group_of_an_iteration_before_is_referred_to : Gives plain (codes "(?:(\\2a)|(b))*") (codes "ba")
    (from 0 (at 2 (span 1 2 ∷ unset ∷ []) ∷ at 1 (unset ∷ span 0 1 ∷ []) ∷ at 0 (unset ∷ unset ∷ []) ∷ []) ∷
    from 1 (at 2 (span 1 2 ∷ unset ∷ []) ∷ at 1 (unset ∷ unset ∷ []) ∷ []) ∷
    from 2 (at 2 (unset ∷ unset ∷ []) ∷ []) ∷ [])
unfolding Gives
no_later_group_of_an_iteration_before_is_referred_to = (refl, refl)

-- ---- with the flag i

with_i_a_reference_matches_the_capital : Gives few_icase (codes "(a)\\1") (codes "aA")
    (from 0 (at 2 (span 0 1 ∷ []) ∷ []) ∷ from 1 [] ∷ from 2 [] ∷ [])
unfolding Gives
with_i_a_reference_matches_the_capital = (refl, rw a_in_two_cases refl)

with_i_and_u_a_reference_matches_the_kelvin_sign : Gives few_icase_unicode (codes "(k)\\1") (107 ∷ 0x212A ∷ [])
    (from 0 (at 2 (span 0 1 ∷ []) ∷ []) ∷ from 1 [] ∷ from 2 [] ∷ [])
unfolding Gives
with_i_and_u_a_reference_matches_the_kelvin_sign = (refl, rw k_with_u refl)

with_i_alone_a_reference_does_not_match_the_kelvin_sign : Gives few_icase (codes "(k)\\1") (107 ∷ 0x212A ∷ [])
    (from 0 [] ∷ from 1 [] ∷ from 2 [] ∷ [])
unfolding Gives
with_i_alone_a_reference_does_not_match_the_kelvin_sign = (refl, rw k_in_two_cases refl)

-- ---- by name

a_name_refers_to_its_group : Gives named (codes "(?<n>a)\\k<n>") (codes "aa")
    (from 0 (at 2 (span 0 1 ∷ []) ∷ []) ∷ from 1 [] ∷ from 2 [] ∷ [])
unfolding Gives
a_name_refers_to_its_group = (refl, refl)

a_name_refers_to_each_of_its_groups_in_turn : Gives named (codes "(?<n>a)|(?<n>b)\\k<n>") (codes "bb")
    (from 0 (at 1 (unset ∷ span 0 1 ∷ []) ∷ at 2 (unset ∷ span 0 1 ∷ []) ∷ []) ∷
    from 1 (at 2 (unset ∷ span 1 2 ∷ []) ∷ []) ∷
    from 2 [] ∷ [])
unfolding Gives
a_name_refers_to_each_of_its_groups_in_turn = (refl, refl)

the_first_group_of_a_name_is_unset_and_matches_nothing : Gives named (codes "(?:(?<n>a)|(?<n>b))\\k<n>") (codes "bb")
    (from 0 (at 1 (unset ∷ span 0 1 ∷ []) ∷ at 2 (unset ∷ span 0 1 ∷ []) ∷ []) ∷
    from 1 (at 2 (unset ∷ span 1 2 ∷ []) ∷ []) ∷
    from 2 [] ∷ [])
unfolding Gives
the_first_group_of_a_name_is_unset_and_matches_nothing = (refl, refl)

the_second_group_of_a_name_is_unset_and_matches_nothing : Gives named (codes "(?:(?<n>a)|(?<n>b))\\k<n>") (codes "ab")
    (from 0 (at 1 (span 0 1 ∷ unset ∷ []) ∷ []) ∷ from 1 (at 2 (unset ∷ span 1 2 ∷ []) ∷ []) ∷ from 2 [] ∷ [])
unfolding Gives
the_second_group_of_a_name_is_unset_and_matches_nothing = (refl, refl)
