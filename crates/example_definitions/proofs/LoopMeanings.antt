-- Examples: the number of iterations of a loop, iterations that match the empty text, and what the groups inside
-- capture.
use Rattle.std.proofs.Common.{[], ◌∷◌, refl, codes}
use Rattle.example_definitions.proofs.Meanings.{plain, Gives, from, at, unset, span}

-- ---- number of iterations

star_takes_as_many_as_it_can : Gives plain (codes "a*") (codes "aa")
    (from 0 (at 2 [] ∷ at 1 [] ∷ at 0 [] ∷ []) ∷ from 1 (at 2 [] ∷ at 1 [] ∷ []) ∷ from 2 (at 2 [] ∷ []) ∷ [])
unfolding Gives
star_takes_as_many_as_it_can = (refl, refl)

lazy_star_takes_as_few_as_it_can : Gives plain (codes "a*?") (codes "aa")
    (from 0 (at 0 [] ∷ at 1 [] ∷ at 2 [] ∷ []) ∷ from 1 (at 1 [] ∷ at 2 [] ∷ []) ∷ from 2 (at 2 [] ∷ []) ∷ [])
unfolding Gives
lazy_star_takes_as_few_as_it_can = (refl, refl)

plus_takes_one_at_least : Gives plain (codes "a+") (codes "aa")
    (from 0 (at 2 [] ∷ at 1 [] ∷ []) ∷ from 1 (at 2 [] ∷ []) ∷ from 2 [] ∷ [])
unfolding Gives
plus_takes_one_at_least = (refl, refl)

lazy_plus_takes_one_first : Gives plain (codes "a+?") (codes "aa")
    (from 0 (at 1 [] ∷ at 2 [] ∷ []) ∷ from 1 (at 2 [] ∷ []) ∷ from 2 [] ∷ [])
unfolding Gives
lazy_plus_takes_one_first = (refl, refl)

question_mark_takes_one_first : Gives plain (codes "a?") (codes "a")
    (from 0 (at 1 [] ∷ at 0 [] ∷ []) ∷ from 1 (at 1 [] ∷ []) ∷ [])
unfolding Gives
question_mark_takes_one_first = (refl, refl)

lazy_question_mark_takes_none_first : Gives plain (codes "a??") (codes "a")
    (from 0 (at 0 [] ∷ at 1 [] ∷ []) ∷ from 1 (at 1 [] ∷ []) ∷ [])
unfolding Gives
lazy_question_mark_takes_none_first = (refl, refl)

one_number_is_exact : Gives plain (codes "a{2}") (codes "aaa")
    (from 0 (at 2 [] ∷ []) ∷ from 1 (at 3 [] ∷ []) ∷ from 3 [] ∷ [])
unfolding Gives
one_number_is_exact = (refl, refl)

two_numbers_are_the_least_and_the_greatest : Gives plain (codes "a{1,2}") (codes "aaa")
    (from 0 (at 2 [] ∷ at 1 [] ∷ []) ∷ from 1 (at 3 [] ∷ at 2 [] ∷ []) ∷ from 3 [] ∷ [])
unfolding Gives
two_numbers_are_the_least_and_the_greatest = (refl, refl)

lazy_numbers_begin_at_the_least : Gives plain (codes "a{1,2}?") (codes "aaa")
    (from 0 (at 1 [] ∷ at 2 [] ∷ []) ∷ from 1 (at 2 [] ∷ at 3 [] ∷ []) ∷ from 3 [] ∷ [])
unfolding Gives
lazy_numbers_begin_at_the_least = (refl, refl)

after_a_comma_there_may_be_no_greatest : Gives plain (codes "a{2,}") (codes "aaaa")
    (from 0 (at 4 [] ∷ at 3 [] ∷ at 2 [] ∷ []) ∷ from 2 (at 4 [] ∷ []) ∷ from 4 [] ∷ [])
unfolding Gives
after_a_comma_there_may_be_no_greatest = (refl, refl)

zero_iterations_stay : Gives plain (codes "a{0}") (codes "a") (from 0 (at 0 [] ∷ []) ∷ from 1 (at 1 [] ∷ []) ∷ [])
unfolding Gives
zero_iterations_stay = (refl, refl)

zero_iterations_at_most_stay : Gives plain (codes "a{0,0}b") (codes "b") (from 0 (at 1 [] ∷ []) ∷ from 1 [] ∷ [])
unfolding Gives
zero_iterations_at_most_stay = (refl, refl)

an_iteration_may_take_one_letter_or_two : Gives plain (codes "(?:ab?){2}") (codes "abab")
    (from 0 (at 4 [] ∷ at 3 [] ∷ []) ∷ from 2 [] ∷ from 4 [] ∷ [])
unfolding Gives
an_iteration_may_take_one_letter_or_two = (refl, refl)

a_repeated_outcome_of_a_loop_is_dropped : Gives plain (codes "(?:a|ab)(?:c|bcd)(?:d*)") (codes "abcd")
    (from 0 (at 4 [] ∷ at 3 [] ∷ []) ∷ from 2 [] ∷ from 4 [] ∷ [])
unfolding Gives
a_repeated_outcome_of_a_loop_is_dropped = (refl, refl)

-- ---- iterations that match the empty text

an_empty_iteration_is_dropped : Gives plain (codes "(?:|a)*") (codes "aa")
    (from 0 (at 2 [] ∷ at 1 [] ∷ at 0 [] ∷ []) ∷ from 1 (at 2 [] ∷ at 1 [] ∷ []) ∷ from 2 (at 2 [] ∷ []) ∷ [])
unfolding Gives
an_empty_iteration_is_dropped = (refl, refl)

an_empty_iteration_tried_last_is_dropped : Gives plain (codes "(?:a|)*") (codes "aa")
    (from 0 (at 2 [] ∷ at 1 [] ∷ at 0 [] ∷ []) ∷ from 1 (at 2 [] ∷ at 1 [] ∷ []) ∷ from 2 (at 2 [] ∷ []) ∷ [])
unfolding Gives
an_empty_iteration_tried_last_is_dropped = (refl, refl)

a_least_iteration_may_be_empty : Gives plain (codes "(?:|a)+") (codes "a")
    (from 0 (at 1 [] ∷ at 0 [] ∷ []) ∷ from 1 (at 1 [] ∷ []) ∷ [])
unfolding Gives
a_least_iteration_may_be_empty = (refl, refl)

each_of_the_least_iterations_may_be_empty : Gives plain (codes "(?:|a){2}") (codes "a")
    (from 0 (at 0 [] ∷ at 1 [] ∷ []) ∷ from 1 (at 1 [] ∷ []) ∷ [])
unfolding Gives
each_of_the_least_iterations_may_be_empty = (refl, refl)

iterations_past_the_least_number_move : Gives plain (codes "(?:|a){2,3}") (codes "aa")
    (from 0 (at 1 [] ∷ at 0 [] ∷ at 2 [] ∷ []) ∷ from 1 (at 2 [] ∷ at 1 [] ∷ []) ∷ from 2 (at 2 [] ∷ []) ∷ [])
unfolding Gives
iterations_past_the_least_number_move = (refl, refl)

lazy_loops_occur_in_each_other : Gives plain (codes "(?:a*?)*?") (codes "a")
    (from 0 (at 0 [] ∷ at 1 [] ∷ []) ∷ from 1 (at 1 [] ∷ []) ∷ [])
unfolding Gives
lazy_loops_occur_in_each_other = (refl, refl)

-- ---- captures of the groups inside

without_an_iteration_the_group_is_unset : Gives plain (codes "(a*)*") (codes "aa")
    (from 0 (at 2 (span 0 2 ∷ []) ∷ at 2 (span 1 2 ∷ []) ∷ at 1 (span 0 1 ∷ []) ∷ at 0 (unset ∷ []) ∷ []) ∷
    from 1 (at 2 (span 1 2 ∷ []) ∷ at 1 (unset ∷ []) ∷ []) ∷
    from 2 (at 2 (unset ∷ []) ∷ []) ∷ [])
unfolding Gives
without_an_iteration_the_group_is_unset = (refl, refl)

an_empty_least_iteration_is_captured : Gives plain (codes "(a*)+") (codes "b")
    (from 0 (at 0 (span 0 0 ∷ []) ∷ []) ∷ from 1 (at 1 (span 1 1 ∷ []) ∷ []) ∷ [])
unfolding Gives
an_empty_least_iteration_is_captured = (refl, refl)

the_last_iteration_is_captured : Gives plain (codes "(a*){2}") (codes "a")
    (from 0 (at 1 (span 1 1 ∷ []) ∷ at 1 (span 0 1 ∷ []) ∷ at 0 (span 0 0 ∷ []) ∷ []) ∷
    from 1 (at 1 (span 1 1 ∷ []) ∷ []) ∷ [])
unfolding Gives
the_last_iteration_is_captured = (refl, refl)

a_dropped_iteration_captures_nothing : Gives plain (codes "(a??)?") (codes "a")
    (from 0 (at 1 (span 0 1 ∷ []) ∷ at 0 (unset ∷ []) ∷ []) ∷ from 1 (at 1 (unset ∷ []) ∷ []) ∷ [])
unfolding Gives
a_dropped_iteration_captures_nothing = (refl, refl)

a_lazy_group_is_unset_first : Gives plain (codes "(a?)??") (codes "a")
    (from 0 (at 0 (unset ∷ []) ∷ at 1 (span 0 1 ∷ []) ∷ []) ∷ from 1 (at 1 (unset ∷ []) ∷ []) ∷ [])
unfolding Gives
a_lazy_group_is_unset_first = (refl, refl)

a_group_of_zero_iterations_is_unset : Gives plain (codes "(?:(a){0})b") (codes "b")
    (from 0 (at 1 (unset ∷ []) ∷ []) ∷ from 1 [] ∷ [])
unfolding Gives
a_group_of_zero_iterations_is_unset = (refl, refl)

each_iteration_captures_anew : Gives plain (codes "(?:(a?)b?){3}") (codes "ab")
    (from 0 (at 2 (span 2 2 ∷ []) ∷ at 2 (span 1 1 ∷ []) ∷ at 1 (span 1 1 ∷ []) ∷ at 2 (span 0 1 ∷ []) ∷
    at 1 (span 0 1 ∷ []) ∷ at 0 (span 0 0 ∷ []) ∷ []) ∷
    from 1 (at 2 (span 2 2 ∷ []) ∷ at 2 (span 1 1 ∷ []) ∷ at 1 (span 1 1 ∷ []) ∷ []) ∷
    from 2 (at 2 (span 2 2 ∷ []) ∷ []) ∷ [])
unfolding Gives
each_iteration_captures_anew = (refl, refl)

an_iteration_forgets_the_captures_before : Gives plain (codes "(?:(a)|(b))*") (codes "ab")
    (from 0 (at 2 (unset ∷ span 1 2 ∷ []) ∷ at 1 (span 0 1 ∷ unset ∷ []) ∷ at 0 (unset ∷ unset ∷ []) ∷ []) ∷
    from 1 (at 2 (unset ∷ span 1 2 ∷ []) ∷ at 1 (unset ∷ unset ∷ []) ∷ []) ∷
    from 2 (at 2 (unset ∷ unset ∷ []) ∷ []) ∷ [])
unfolding Gives
an_iteration_forgets_the_captures_before = (refl, refl)

an_iteration_forgets_the_group_that_it_passes_by : Gives plain (codes "(?:(a)|b)*") (codes "ab")
    (from 0 (at 2 (unset ∷ []) ∷ at 1 (span 0 1 ∷ []) ∷ at 0 (unset ∷ []) ∷ []) ∷
    from 1 (at 2 (unset ∷ []) ∷ at 1 (unset ∷ []) ∷ []) ∷
    from 2 (at 2 (unset ∷ []) ∷ []) ∷ [])
unfolding Gives
an_iteration_forgets_the_group_that_it_passes_by = (refl, refl)

a_lazy_iteration_forgets_too : Gives plain (codes "((a)|b)*?c") (codes "abc")
    (from 0 (at 3 (span 1 2 ∷ unset ∷ []) ∷ []) ∷ from 1 (at 3 (span 1 2 ∷ unset ∷ []) ∷ []) ∷ from 3 [] ∷ [])
unfolding Gives
a_lazy_iteration_forgets_too = (refl, refl)

the_last_iteration_may_pass_its_group_by : Gives plain (codes "(a)|(?:b(c)?)+") (codes "bcb")
    (from 0 (at 3 (unset ∷ unset ∷ []) ∷ at 2 (unset ∷ span 1 2 ∷ []) ∷ at 1 (unset ∷ unset ∷ []) ∷ []) ∷
    from 1 [] ∷
    from 3 [] ∷ [])
unfolding Gives
the_last_iteration_may_pass_its_group_by = (refl, refl)

each_iteration_begins_with_all_groups_inside_unset : Gives plain (codes "(z)((a+)?(b+)?(c))*") (codes "zaacbbbcac")
    (from 0 (at 10 (span 0 1 ∷ span 8 10 ∷ span 8 9 ∷ unset ∷ span 9 10 ∷ []) ∷
    at 8 (span 0 1 ∷ span 4 8 ∷ unset ∷ span 4 7 ∷ span 7 8 ∷ []) ∷
    at 4 (span 0 1 ∷ span 1 4 ∷ span 1 3 ∷ unset ∷ span 3 4 ∷ []) ∷
    at 1 (span 0 1 ∷ unset ∷ unset ∷ unset ∷ unset ∷ []) ∷ []) ∷
    from 5 [] ∷
    from 10 [] ∷ [])
unfolding Gives
each_iteration_begins_with_all_groups_inside_unset = (refl, refl)
