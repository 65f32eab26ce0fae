-- Examples: where lookarounds match, and what the groups inside them capture.
use Rattle.std.proofs.Common.{[], ◌∷◌, refl, codes}
use Rattle.regress_base.specs.Classes.{digits}
use Rattle.example_definitions.proofs.CharacterSets.{own_set, letters_set}
use Rattle.example_definitions.proofs.Meanings.{plain, Gives, from, at, unset, span}

-- ---- lookaheads

a_lookahead_takes_nothing : Gives plain (codes "(?=a)") (codes "a") (from 0 (at 0 [] ∷ []) ∷ from 1 [] ∷ [])
unfolding Gives
a_lookahead_takes_nothing = (refl, refl)

a_lookahead_keeps_its_captures : Gives plain (codes "(?=(a))") (codes "a")
    (from 0 (at 0 (span 0 1 ∷ []) ∷ []) ∷ from 1 [] ∷ [])
unfolding Gives
a_lookahead_keeps_its_captures = (refl, refl)

a_negative_lookahead_fails_where_its_body_matches : Gives plain (codes "(?!(a))") (codes "a")
    (from 0 [] ∷ from 1 (at 1 (unset ∷ []) ∷ []) ∷ [])
unfolding Gives
a_negative_lookahead_fails_where_its_body_matches = (refl, refl)

a_negative_lookahead_captures_nothing : Gives plain (codes "(?!(a))") (codes "b")
    (from 0 (at 0 (unset ∷ []) ∷ []) ∷ from 1 (at 1 (unset ∷ []) ∷ []) ∷ [])
unfolding Gives
a_negative_lookahead_captures_nothing = (refl, refl)

only_the_first_outcome_of_a_lookahead_counts : Gives plain (codes "(?=(a*))") (codes "aa")
    (from 0 (at 0 (span 0 2 ∷ []) ∷ []) ∷ from 1 (at 1 (span 1 2 ∷ []) ∷ []) ∷ from 2 (at 2 (span 2 2 ∷ []) ∷ []) ∷ [])
unfolding Gives
only_the_first_outcome_of_a_lookahead_counts = (refl, refl)

nothing_goes_back_into_a_lookahead : Gives plain (codes "(?=(a+))a*b\\1") (codes "aaba")
    (from 0 [] ∷ from 2 [] ∷ from 4 [] ∷ [])
unfolding Gives
nothing_goes_back_into_a_lookahead = (refl, refl)

a_lookahead_takes_the_earlier_alternative : Gives plain (codes "(?=(a|ab))") (codes "ab")
    (from 0 (at 0 (span 0 1 ∷ []) ∷ []) ∷ from 1 [] ∷ from 2 [] ∷ [])
unfolding Gives
a_lookahead_takes_the_earlier_alternative = (refl, refl)

lookaheads_follow_each_other : Gives plain (codes "(?=a|b)(?=b)b") (codes "b") (from 0 (at 1 [] ∷ []) ∷ from 1 [] ∷ [])
unfolding Gives
lookaheads_follow_each_other = (refl, refl)

a_reference_to_a_group_in_a_negative_lookahead_matches_nothing : Gives plain (codes "(.*?)a(?!(a+)b\\2c)\\2(.*)") (codes "baaabaac")
    (from 0 (at 8 (span 0 2 ∷ unset ∷ span 3 8 ∷ []) ∷ at 7 (span 0 2 ∷ unset ∷ span 3 7 ∷ []) ∷
    at 6 (span 0 2 ∷ unset ∷ span 3 6 ∷ []) ∷ at 5 (span 0 2 ∷ unset ∷ span 3 5 ∷ []) ∷
    at 4 (span 0 2 ∷ unset ∷ span 3 4 ∷ []) ∷ at 3 (span 0 2 ∷ unset ∷ span 3 3 ∷ []) ∷
    at 8 (span 0 3 ∷ unset ∷ span 4 8 ∷ []) ∷ at 7 (span 0 3 ∷ unset ∷ span 4 7 ∷ []) ∷
    at 6 (span 0 3 ∷ unset ∷ span 4 6 ∷ []) ∷ at 5 (span 0 3 ∷ unset ∷ span 4 5 ∷ []) ∷
    at 4 (span 0 3 ∷ unset ∷ span 4 4 ∷ []) ∷ at 8 (span 0 5 ∷ unset ∷ span 6 8 ∷ []) ∷
    at 7 (span 0 5 ∷ unset ∷ span 6 7 ∷ []) ∷ at 6 (span 0 5 ∷ unset ∷ span 6 6 ∷ []) ∷
    at 8 (span 0 6 ∷ unset ∷ span 7 8 ∷ []) ∷ at 7 (span 0 6 ∷ unset ∷ span 7 7 ∷ []) ∷ []) ∷
    from 4 (at 8 (span 4 5 ∷ unset ∷ span 6 8 ∷ []) ∷ at 7 (span 4 5 ∷ unset ∷ span 6 7 ∷ []) ∷
    at 6 (span 4 5 ∷ unset ∷ span 6 6 ∷ []) ∷ at 8 (span 4 6 ∷ unset ∷ span 7 8 ∷ []) ∷
    at 7 (span 4 6 ∷ unset ∷ span 7 7 ∷ []) ∷ []) ∷
    from 8 [] ∷ [])
unfolding Gives
a_reference_to_a_group_in_a_negative_lookahead_matches_nothing = (refl, refl)

-- ---- lookaheads in loops

a_lookahead_may_be_repeated : Gives plain (codes "(?=a)*") (codes "a")
    (from 0 (at 0 [] ∷ []) ∷ from 1 (at 1 [] ∷ []) ∷ [])
unfolding Gives
a_lookahead_may_be_repeated = (refl, refl)

an_iteration_of_a_lookahead_alone_does_not_move : Gives plain (codes "(?:(?=(a)))+b") (codes "ab")
    (from 0 [] ∷ from 1 [] ∷ from 2 [] ∷ [])
unfolding Gives
an_iteration_of_a_lookahead_alone_does_not_move = (refl, refl)

a_lookahead_that_fails_leaves_its_group_unset : Gives plain (codes "(?:(?=(a)))?b") (codes "b")
    (from 0 (at 1 (unset ∷ []) ∷ []) ∷ from 1 [] ∷ [])
unfolding Gives
a_lookahead_that_fails_leaves_its_group_unset = (refl, refl)

each_iteration_looks_anew : Gives plain (codes "(?:(?=(a))a)*") (codes "aa")
    (from 0 (at 2 (span 1 2 ∷ []) ∷ at 1 (span 0 1 ∷ []) ∷ at 0 (unset ∷ []) ∷ []) ∷
    from 1 (at 2 (span 1 2 ∷ []) ∷ at 1 (unset ∷ []) ∷ []) ∷
    from 2 (at 2 (unset ∷ []) ∷ []) ∷ [])
unfolding Gives
each_iteration_looks_anew = (refl, refl)

-- ---- lookbehinds

a_lookbehind_looks_at_what_comes_before : Gives plain (codes "(?<=a)b") (codes "ab")
    (from 0 [] ∷ from 1 (at 2 [] ∷ []) ∷ from 2 [] ∷ [])
unfolding Gives
a_lookbehind_looks_at_what_comes_before = (refl, refl)

a_lookbehind_ends_at_its_position : Gives plain (codes "(?<=(a|ab))") (codes "ab")
    (from 0 [] ∷ from 1 (at 1 (span 0 1 ∷ []) ∷ []) ∷ from 2 (at 2 (span 0 2 ∷ []) ∷ []) ∷ [])
unfolding Gives
a_lookbehind_ends_at_its_position = (refl, refl)

a_negative_lookbehind_fails_where_its_body_matches : Gives plain (codes "(?<!a)b") (codes "ab")
    (from 0 [] ∷ from 1 [] ∷ from 2 [] ∷ [])
unfolding Gives
a_negative_lookbehind_fails_where_its_body_matches = (refl, refl)

a_negative_lookbehind_holds_at_the_start : Gives plain (codes "(?<!a)b") (codes "b")
    (from 0 (at 1 [] ∷ []) ∷ from 1 [] ∷ [])
unfolding Gives
a_negative_lookbehind_holds_at_the_start = (refl, refl)

the_later_loop_of_a_lookbehind_takes_the_most : Gives plain (codes "(?<=(\\d+)(\\d+))$") (codes "1053")
    (from 0 [] ∷ from 2 [] ∷ from 4 (at 4 (span 0 1 ∷ span 1 4 ∷ []) ∷ []) ∷ [])
unfolding Gives
the_later_loop_of_a_lookbehind_takes_the_most = (refl, rw (own_set digits refl) refl)

the_later_class_of_a_lookbehind_takes_the_most : Gives plain (codes "(?<=([abc]+)([abc]+))") (codes "abc")
    (from 0 [] ∷ from 1 [] ∷ from 3 (at 3 (span 0 1 ∷ span 1 3 ∷ []) ∷ []) ∷ [])
unfolding Gives
the_later_class_of_a_lookbehind_takes_the_most = (refl, rw letters_set refl)

the_parts_of_a_lookbehind_match_from_the_last_on : Gives plain (codes "(?<=(..)(.))") (codes "abc")
    (from 0 [] ∷ from 1 [] ∷ from 3 (at 3 (span 0 2 ∷ span 2 3 ∷ []) ∷ []) ∷ [])
unfolding Gives
the_parts_of_a_lookbehind_match_from_the_last_on = (refl, refl)

a_loop_in_a_lookbehind_goes_backwards : Gives plain (codes "(?<=(?:a|bc)+)") (codes "bca")
    (from 0 [] ∷ from 1 [] ∷ from 3 (at 3 [] ∷ []) ∷ [])
unfolding Gives
a_loop_in_a_lookbehind_goes_backwards = (refl, refl)

a_lazy_loop_in_a_lookbehind_takes_none_first : Gives plain (codes "(?<=(a*?))") (codes "aa")
    (from 0 (at 0 (span 0 0 ∷ []) ∷ []) ∷ from 1 (at 1 (span 1 1 ∷ []) ∷ []) ∷ from 2 (at 2 (span 2 2 ∷ []) ∷ []) ∷ [])
unfolding Gives
a_lazy_loop_in_a_lookbehind_takes_none_first = (refl, refl)

an_anchor_may_occur_in_a_lookbehind : Gives plain (codes "(?<=^a)") (codes "a") (from 0 [] ∷ from 1 (at 1 [] ∷ []) ∷ [])
unfolding Gives
an_anchor_may_occur_in_a_lookbehind = (refl, refl)

-- ---- references in lookbehinds

a_reference_before_its_group_comes_after_it_backwards : Gives plain (codes "(?<=\\1(a))") (codes "aa")
    (from 0 [] ∷ from 1 [] ∷ from 2 (at 2 (span 1 2 ∷ []) ∷ []) ∷ [])
unfolding Gives
a_reference_before_its_group_comes_after_it_backwards = (refl, refl)

a_reference_after_its_group_comes_before_it_backwards : Gives plain (codes "(?<=(a)\\1)") (codes "aa")
    (from 0 [] ∷ from 1 (at 1 (span 0 1 ∷ []) ∷ []) ∷ from 2 (at 2 (span 1 2 ∷ []) ∷ []) ∷ [])
unfolding Gives
a_reference_after_its_group_comes_before_it_backwards = (refl, refl)

-- ---- nested lookarounds

a_lookahead_in_a_lookbehind_looks_forwards : Gives plain (codes "(?<=(?=b)b)") (codes "b")
    (from 0 [] ∷ from 1 (at 1 [] ∷ []) ∷ [])
unfolding Gives
a_lookahead_in_a_lookbehind_looks_forwards = (refl, refl)

a_lookahead_in_a_lookbehind_sees_past_its_end : Gives plain (codes "(?<=a(?=(b)))") (codes "ab")
    (from 0 [] ∷ from 1 (at 1 (span 1 2 ∷ []) ∷ []) ∷ from 2 [] ∷ [])
unfolding Gives
a_lookahead_in_a_lookbehind_sees_past_its_end = (refl, refl)

a_lookbehind_in_a_lookahead_sees_before_its_start : Gives plain (codes "(?=(?<=(a))b)") (codes "ab")
    (from 0 [] ∷ from 1 (at 1 (span 0 1 ∷ []) ∷ []) ∷ from 2 [] ∷ [])
unfolding Gives
a_lookbehind_in_a_lookahead_sees_before_its_start = (refl, refl)
