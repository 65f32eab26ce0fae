-- Examples: what ECMA-262's algorithm returns, computed from its transcription. Patterns, texts and results are those of
-- the notes of the standard (22.2.2.3 CompileSubpattern, 22.2.2.3.1 RepeatMatcher, 22.2.2.4 CompileAssertion); the
-- others are those of V8 11.3, but for groups of one name, which it does not accept.
use Rattle.std.proofs.Common.{◌≡◌, ℕ, ◌+◌, List, [], ◌∷◌, ◌++◌, length, Option, Some, None, option_map, refl, codes}
use lib.Utf8.{encode}
use Rattle.regress_base.specs.Intervals.{is_member, is_within}
use Rattle.regress_tree.specs.Reading.{byte_position}
use Rattle.regress_tree.specs.Steps.{Setting}
use Rattle.regress_lexer.specs.Source.{Source}
use Rattle.regress_ecma.specs.Notation.{CaptureRange, MatchResult}
use Rattle.regress_ecma.specs.Repetition.{repeat_matcher}
use Rattle.regress_ecma.specs.CharacterMatchers.{character_set_matcher, backreference_matcher}
use Rattle.regress_ecma.specs.Compile.{compile_pattern}
use Rattle.regress_ecma.specs.Exec.{Found, first_match, builtin_exec, found_in_bytes}
use Rattle.example_definitions.proofs.EcmaCases.{kelvin, long_s, letters, i, iu, v}
use Rattle.example_definitions.proofs.Meanings.{empty_table, plain, named, pattern_of, unset, span}

-- the match of the pattern at an index of the text
unfoldable match_at : Setting → Source → List ℕ → (index : ℕ) → Option MatchResult
unfolding pattern_of repeat_matcher character_set_matcher backreference_matcher is_member is_within
match_at setting source text index =
    option_map (λ p. compile_pattern (length text + 1) setting.table setting.flags p text index) (pattern_of setting source)

-- The source is a pattern, which matches the text from one index to another, with these captures.
unfoldable Matches : Source → List ℕ → (index end : ℕ) → List (Option CaptureRange) → Type 0
unfolding match_at
Matches source text index end captures =
    match_at plain source text index ≡ Some (Some (record { input = text; end_index = end; captures = captures }))

-- The source is a pattern, which does not match the text from the index.
unfoldable Fails : Source → List ℕ → (index : ℕ) → Type 0
unfolding match_at
Fails source text index = match_at plain source text index ≡ Some None

an_iteration_of_the_empty_text_is_not_taken : Matches (codes "(a*)*") (codes "b") 0 0 (unset ∷ [])
unfolding Matches
an_iteration_of_the_empty_text_is_not_taken = refl

an_empty_iteration_of_the_minimum_is_taken : Matches (codes "(a*){2,3}") (codes "b") 0 0 (span 0 0 ∷ [])
unfolding Matches
an_empty_iteration_of_the_minimum_is_taken = refl

alternatives_are_tried_in_order : Matches (codes "((a)|(ab))((c)|(bc))") (codes "abc") 0 3
    (span 0 1 ∷ span 0 1 ∷ unset ∷ span 1 3 ∷ unset ∷ span 1 3 ∷ [])
unfolding Matches
alternatives_are_tried_in_order = refl

what_follows_an_alternative_takes_the_rest : Matches (codes "(?:a|ab)(?:c|bcd)(d*)") (codes "abcd") 0 4 (span 4 4 ∷ [])
unfolding Matches
what_follows_an_alternative_takes_the_rest = refl

each_iteration_begins_with_its_captures_undefined : Matches (codes "(z)((a+)?(b+)?(c))*") (codes "zaacbbbcac") 0 10
    (span 0 1 ∷ span 8 10 ∷ span 8 9 ∷ unset ∷ span 9 10 ∷ [])
unfolding Matches
each_iteration_begins_with_its_captures_undefined = refl

a_lookahead_takes_nothing : Matches (codes "(?=(a+))") (codes "baaabac") 1 1 (span 1 4 ∷ [])
unfolding Matches
a_lookahead_takes_nothing = refl

nothing_goes_back_into_a_lookahead : Fails (codes "(?=(a+))a*b\\1") (codes "baaabac") 0
    × Fails (codes "(?=(a+))a*b\\1") (codes "baaabac") 1 × Fails (codes "(?=(a+))a*b\\1") (codes "baaabac") 2
unfolding Fails
nothing_goes_back_into_a_lookahead = (refl, refl, refl)

a_reference_matches_what_a_lookahead_captured : Matches (codes "(?=(a+))a*b\\1") (codes "baaabac") 3 6 (span 3 4 ∷ [])
unfolding Matches
a_reference_matches_what_a_lookahead_captured = refl

a_negative_lookahead_leaves_its_captures_undefined : Matches (codes "(.*?)a(?!(a+)b\\2c)\\2(.*)") (codes "baaabaac") 0 8
    (span 0 2 ∷ unset ∷ span 3 8 ∷ [])
unfolding Matches
a_negative_lookahead_leaves_its_captures_undefined = refl

a_lookbehind_is_matched_backwards : Matches (codes "(?<=(\\d+)(\\d+))$") (codes "1053") 4 4 (span 0 1 ∷ span 1 4 ∷ [])
unfolding Matches
a_lookbehind_is_matched_backwards = refl

-- ---- flags and names

-- The source is a pattern, which matches the text from its start to an index, with these captures.
unfoldable MatchesWith : Setting → Source → List ℕ → (end : ℕ) → List (Option CaptureRange) → Type 0
unfolding match_at
MatchesWith setting source text end captures =
    match_at setting source text 0 ≡ Some (Some (record { input = text; end_index = end; captures = captures }))

-- The source is a pattern, which does not match the text from its start.
unfoldable FailsWith : Setting → Source → List ℕ → Type 0
unfolding match_at
FailsWith setting source text = match_at setting source text 0 ≡ Some None

abbrev two_names : Source
two_names = codes "(?:(?<a>x)|(?<a>y))\\k<a>"

a_reference_takes_the_group_that_is_set : MatchesWith named two_names (codes "yy") 2 (unset ∷ span 0 1 ∷ [])
    × MatchesWith named two_names (codes "xx") 2 (span 0 1 ∷ unset ∷ []) × FailsWith named two_names (codes "xy")
unfolding MatchesWith FailsWith
a_reference_takes_the_group_that_is_set = (refl, refl, refl)

a_reference_to_groups_that_are_unset_matches :
    MatchesWith named (codes "(?:(?<a>x)|(?<a>y)|z)\\k<a>") (codes "z") 1 (unset ∷ unset ∷ [])
unfolding MatchesWith
a_reference_to_groups_that_are_unset_matches = refl

-- some letters, with the flag i, and with i and u
abbrev with_i : Setting
with_i = record { flags = i; table = letters }

abbrev with_iu : Setting
with_iu = record { flags = iu; table = letters }

a_reference_compares_canonical_forms : MatchesWith with_iu (codes "(k)\\1") (codes "k" ++ kelvin ∷ []) 2 (span 0 1 ∷ [])
    × FailsWith with_i (codes "(k)\\1") (codes "k" ++ kelvin ∷ []) × MatchesWith with_i (codes "(k)\\1") (codes "kK") 2 (span 0 1 ∷ [])
unfolding MatchesWith FailsWith
a_reference_compares_canonical_forms = (refl, refl, refl)

-- The upper case of U+017F is an ASCII letter, which without u is not its canonical form.
no_letter_becomes_one_of_ascii : FailsWith with_i (codes "\\u017F") (codes "s") × MatchesWith with_iu (codes "\\u017F") (codes "s") 1 []
    × MatchesWith with_i (codes "\\u017F") (long_s ∷ []) 1 []
unfolding MatchesWith FailsWith
no_letter_becomes_one_of_ascii = (refl, refl, refl)

-- two strings of RGI_Emoji
abbrev emoji : Setting
emoji = record {
  flags = v;
  table = record empty_table {
    strings = record { name = codes "RGI_Emoji"; value = (0x1F44D ∷ []) ∷ (0x1F44D ∷ 0x1F3FD ∷ []) ∷ [] } ∷ [];
  };
}

the_longest_string_of_a_property_comes_first : MatchesWith emoji (codes "\\p{RGI_Emoji}") (0x1F44D ∷ 0x1F3FD ∷ []) 2 []
    × MatchesWith emoji (codes "\\p{RGI_Emoji}\\u{1F3FD}") (0x1F44D ∷ 0x1F3FD ∷ []) 2 []
    × MatchesWith emoji (codes "\\p{RGI_Emoji}") (0x1F44D ∷ codes "a") 1 [] × FailsWith emoji (codes "\\p{RGI_Emoji}") (codes "a")
unfolding MatchesWith FailsWith
the_longest_string_of_a_property_comes_first = (refl, refl, refl, refl)

-- ---- searches

-- what RegExpBuiltinExec finds from an index on
unfoldable searched : Setting → Source → List ℕ → (last_index : ℕ) → Option (Option Found)
unfolding pattern_of first_match repeat_matcher character_set_matcher backreference_matcher is_member is_within
searched setting source text last_index =
    option_map (λ p. builtin_exec setting p text last_index) (pattern_of setting source)

-- The source is a pattern, whose first match from an index on is from one index to another, with these captures.
unfoldable Finds : Source → List ℕ → (last_index index end : ℕ) → List (Option CaptureRange) → Type 0
unfolding searched
Finds source text last_index index end captures =
    searched plain source text last_index ≡ Some (Some (index, record { input = text; end_index = end; captures = captures }))

a_search_tries_each_index : Finds (codes "(?=(a+))a*b\\1") (codes "baaabac") 0 3 6 (span 3 4 ∷ [])
unfolding Finds
a_search_tries_each_index = refl

a_search_begins_at_the_last_index : Finds (codes "a+") (codes "baaabac") 2 2 4 [] × Finds (codes "a+") (codes "baaabac") 4 5 6 []
unfolding Finds
a_search_begins_at_the_last_index = (refl, refl)

the_end_of_the_text_is_tried_last : Finds (codes "$") (codes "ab") 2 2 2 [] × (searched plain (codes "b") (codes "ab") 2 ≡ Some None)
unfolding Finds searched
the_end_of_the_text_is_tried_last = (refl, refl)

-- The first character of the text is U+00E9, which has two bytes.
offsets_count_bytes : option_map (option_map found_in_bytes) (searched plain (codes "(a)") (233 ∷ codes "a") 0)
    ≡ Some (Some (2, record { position = 3; captures = span 2 3 ∷ [] }))
unfolding searched byte_position encode
offsets_count_bytes = refl
