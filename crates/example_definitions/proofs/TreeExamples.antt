-- Examples: what trees match, and the sizes of trees.
use Rattle.std.proofs.Common.{◌≡◌, ℕ, Bool, true, false, List, [], ◌∷◌, map, Option, Some, None, refl, codes}
use Rattle.std.specs.Str.{chars}
use lib.Utf8.{encode}
use Rattle.regress_base.specs.Classes.{digits}
use Rattle.regress_base.specs.Intervals.{is_member, is_within}
use Rattle.regress_base.specs.declared.types.AnchorType.TheVariants.{StartOfLine, EndOfLine}
use Rattle.regress_base.specs.declared.types.Quantifier.{Quantifier}
use Rattle.regress_tree.specs.Reading.{forwards, backwards, of_characters, read_after, read_before, character_at}
use Rattle.regress_tree.specs.Steps.{MatchState, CaptureSpan, same_state, one_character, these_bytes, hold_at, capture, Setting}
use Rattle.regress_tree.specs.Repetition.{unset, repeat_matcher}
use Rattle.regress_tree.specs.Lookaround.{lookaround_matcher}
use Rattle.regress_tree.specs.References.{back_reference, any_string}
use Rattle.regress_tree.specs.Assertions.{is_word_character, at_anchor, at_boundary}
use Rattle.regress_unicode.specs.FoldEntries.{mapped}
use Rattle.regress_base.specs.Table.{is_in_closure}
use Rattle.regress_tree.specs.Matching.{matches}
use Rattle.regress_unicode.specs.SmallTable.{small_table}
use Rattle.regress_tree.specs.Tree.{Tree, leaf, empty, char, byte_sequence, anchor, bracket, back_ref, string_set, cat, alt, wrapped, no_trees, more_trees, capture_group, loop, loop_one, lookaround}
use Rattle.regress_tree.specs.Units.{loops, account, weight}

abbrev plain : Setting
plain = record {
  flags = record { icase = false; multiline = false; dot_all = false; unicode = false; unicode_sets = false };
  table = small_table;
}

-- `*`, `*?` and `{2}`
abbrev star : Quantifier
star = record { min = 0; max = None; greedy = true }

abbrev lazy_star : Quantifier
lazy_star = record { min = 0; max = None; greedy = false }

abbrev twice : Quantifier
twice = record { min = 2; max = Some 2; greedy = true }

abbrev a : Tree
a = leaf (char 97)

abbrev b : Tree
b = leaf (char 98)

-- a state without captures
abbrev at : ℕ → MatchState
at position = record { position = position; captures = [] }

-- a state with the capture of one group
abbrev with_group : ℕ → Option CaptureSpan → MatchState
with_group position span = record { position = position; captures = span ∷ [] }

-- ---- repetition

-- `a*` on "aa" matches as many characters as possible first, and then fewer.
greedy_star : matches plain (codes "aa") forwards (wrapped (loop star 0 0) a) (at 0) ≡ at 2 ∷ at 1 ∷ at 0 ∷ []
unfolding one_character chars encode character_at read_after repeat_matcher same_state
greedy_star = refl

-- `a*?` on "aa" matches as few characters as possible first, and then more.
lazy_one : matches plain (codes "aa") forwards (wrapped (loop_one lazy_star) a) (at 0) ≡ at 0 ∷ at 1 ∷ at 2 ∷ []
unfolding one_character chars encode character_at read_after repeat_matcher same_state
lazy_one = refl

-- backwards from the end
star_backwards : matches plain (codes "aa") backwards (wrapped (loop star 0 0) a) (at 2) ≡ at 0 ∷ at 1 ∷ at 2 ∷ []
unfolding one_character chars encode character_at read_before repeat_matcher same_state
star_backwards = refl

-- `(?:|a)*` on "a": an iteration that matches the empty text is dropped.
empty_iterations_are_dropped : matches plain (codes "a") forwards (wrapped (loop star 0 0) (alt (leaf empty) a)) (at 0) ≡ at 1 ∷ at 0 ∷ []
unfolding one_character chars encode character_at read_after repeat_matcher same_state
empty_iterations_are_dropped = refl

-- `(?:|a){2}` on "a": one of the minimum number of iterations can match the empty text.
least_iterations_may_be_empty : matches plain (codes "a") forwards (wrapped (loop twice 0 0) (alt (leaf empty) a)) (at 0) ≡ at 0 ∷ at 1 ∷ []
unfolding one_character chars encode character_at read_after repeat_matcher same_state
least_iterations_may_be_empty = refl

-- `(?:(a)|b)*` on "ab": the second iteration unsets the group that the first one set.
iterations_forget : matches plain (codes "ab") forwards (wrapped (loop star 0 1) (alt (wrapped (capture_group 0 None) a) b)) (with_group 0 None)
    ≡ with_group 2 None ∷ with_group 1 (Some (0, 1)) ∷ with_group 0 None ∷ []
unfolding one_character chars encode character_at read_after capture repeat_matcher same_state
iterations_forget = refl

-- The groups outside the range keep their captures.
unset_middle : unset 1 2 (record { position = 5; captures = Some (0, 1) ∷ Some (1, 2) ∷ Some (2, 3) ∷ [] })
    ≡ record { position = 5; captures = Some (0, 1) ∷ None ∷ Some (2, 3) ∷ [] }
unset_middle = refl

-- ---- anchors and boundaries

-- where `^` and `$` match in "a", a line feed, "b": at the ends, and with `multiline` also at the ends of a line
abbrev starts : (multiline : Bool) → List Bool
starts multiline = map (at_anchor (of_characters (97 ∷ 10 ∷ 98 ∷ [])) StartOfLine multiline) (0 ∷ 1 ∷ 2 ∷ 3 ∷ [])

abbrev ends : (multiline : Bool) → List Bool
ends multiline = map (at_anchor (of_characters (97 ∷ 10 ∷ 98 ∷ [])) EndOfLine multiline) (0 ∷ 1 ∷ 2 ∷ 3 ∷ [])

one_start : starts false ≡ true ∷ false ∷ false ∷ false ∷ []
one_start = refl

line_starts : starts true ≡ true ∷ false ∷ true ∷ false ∷ []
unfolding is_member is_within
line_starts = refl

one_end : ends false ≡ false ∷ false ∷ false ∷ true ∷ []
one_end = refl

line_ends : ends true ≡ false ∷ true ∷ false ∷ true ∷ []
unfolding is_member is_within
line_ends = refl

-- The anchor of a tree tests bytes: after U+2028, which has three bytes, a line starts.
after_a_separator : matches plain (0xE2 ∷ 0x80 ∷ 0xA8 ∷ []) forwards (leaf (anchor StartOfLine true)) (at 3) ≡ at 3 ∷ []
unfolding is_member is_within hold_at chars encode character_at read_before same_state
after_a_separator = refl

-- word boundaries in "a-": before and after the letter, and not at the end
abbrev boundaries : (invert : Bool) → List Bool
boundaries invert = map (at_boundary (of_characters (codes "a-")) (is_word_character small_table false) invert) (0 ∷ 1 ∷ 2 ∷ [])

at_boundaries : boundaries false ≡ true ∷ true ∷ false ∷ []
unfolding is_member is_within
at_boundaries = refl

off_boundaries : boundaries true ≡ false ∷ false ∷ true ∷ []
unfolding is_member is_within
off_boundaries = refl

-- With `unicode_icase`, U+017F and U+212A are word characters, since they fold to s and k.
words_in_either_case : map (is_word_character small_table true) (0x17F ∷ 0x212A ∷ 0x2D ∷ []) ≡ true ∷ true ∷ false ∷ []
unfolding is_in_closure small_table mapped
words_in_either_case = refl

words_as_they_occur : map (is_word_character small_table false) (0x17F ∷ 0x5F ∷ 0x2D ∷ []) ≡ false ∷ true ∷ false ∷ []
unfolding is_member is_within
words_as_they_occur = refl

-- ---- lookarounds

-- `(?=(a))` on "ab" keeps the position and the capture of its group.
a_look_captures : matches plain (codes "ab") forwards (wrapped (lookaround false false 0 1) (wrapped (capture_group 0 None) a)) (with_group 0 None)
    ≡ with_group 0 (Some (0, 1)) ∷ []
unfolding one_character chars encode character_at read_after capture lookaround_matcher same_state
a_look_captures = refl

-- `(?=a*)` on "aa" yields only the first outcome of its body.
one_outcome : matches plain (codes "aa") forwards (wrapped (lookaround false false 0 0) (wrapped (loop star 0 0) a)) (at 0) ≡ at 0 ∷ []
unfolding one_character chars encode character_at read_after repeat_matcher lookaround_matcher same_state
one_outcome = refl

-- `(?!b)` on "ab"
no_b_ahead : matches plain (codes "ab") forwards (wrapped (lookaround true false 0 0) b) (at 0) ≡ at 0 ∷ []
unfolding one_character chars encode character_at read_after lookaround_matcher same_state
no_b_ahead = refl

b_ahead : matches plain (codes "ab") forwards (wrapped (lookaround true false 0 0) b) (at 1) ≡ []
unfolding one_character chars encode character_at read_after lookaround_matcher
b_ahead = refl

-- `(?<=ab)` after "ab": the parts of its body are reversed, and it matches backwards where the whole tree matches
-- forwards.
abbrev after_ab : Tree
after_ab = wrapped (lookaround false true 0 0) (cat (more_trees b (more_trees a no_trees)))

ab_after : matches plain (codes "ab") forwards after_ab (at 2) ≡ at 2 ∷ []
unfolding one_character chars encode character_at read_before lookaround_matcher same_state
ab_after = refl

no_ab_after : matches plain (codes "ab") forwards after_ab (at 1) ≡ []
unfolding one_character chars encode character_at read_before lookaround_matcher
no_ab_after = refl

-- `(?=a)` matches forwards, also where the whole tree matches backwards.
ahead_in_a_lookbehind : matches plain (codes "ab") backwards (wrapped (lookaround false false 0 0) a) (at 0) ≡ at 0 ∷ []
unfolding one_character chars encode character_at read_after lookaround_matcher same_state
ahead_in_a_lookbehind = refl

-- ---- references

-- `\1` where the group is unset or does not exist matches the empty text.
unset_group : matches plain (codes "a") forwards (leaf (back_ref 1 false)) (with_group 0 None) ≡ with_group 0 None ∷ []
unfolding back_reference same_state
unset_group = refl

no_such_group : matches plain (codes "a") backwards (leaf (back_ref 2 false)) (with_group 1 (Some (0, 1))) ≡ with_group 1 (Some (0, 1)) ∷ []
unfolding back_reference same_state
no_such_group = refl

-- U+E9 and U+1F600 twice, which have two bytes and four
abbrev two_twice : List ℕ
two_twice = 0xC3 ∷ 0xA9 ∷ 0xF0 ∷ 0x9F ∷ 0x98 ∷ 0x80 ∷ 0xC3 ∷ 0xA9 ∷ 0xF0 ∷ 0x9F ∷ 0x98 ∷ 0x80 ∷ []

two_after : matches plain two_twice forwards (leaf (back_ref 1 false)) (with_group 6 (Some (0, 6))) ≡ with_group 12 (Some (0, 6)) ∷ []
unfolding one_character chars encode character_at read_after back_reference same_state
two_after = refl

two_before : matches plain two_twice backwards (leaf (back_ref 1 false)) (with_group 6 (Some (6, 12))) ≡ with_group 0 (Some (6, 12)) ∷ []
unfolding one_character chars encode character_at read_after read_before back_reference same_state
two_before = refl

-- From another position, there are other characters.
others_after : matches plain two_twice forwards (leaf (back_ref 1 false)) (with_group 2 (Some (0, 6))) ≡ []
unfolding one_character chars encode character_at read_after back_reference
others_after = refl

-- With `icase`, a letter matches its other case.
in_either_case : matches plain (codes "aA") forwards (leaf (back_ref 1 true)) (with_group 1 (Some (0, 1))) ≡ with_group 2 (Some (0, 1)) ∷ []
unfolding one_character chars encode character_at read_after back_reference same_state small_table mapped
in_either_case = refl

in_one_case : matches plain (codes "aA") forwards (leaf (back_ref 1 false)) (with_group 1 (Some (0, 1))) ≡ []
unfolding one_character chars encode character_at read_after back_reference
in_one_case = refl

-- ---- sets of strings

-- "ab" and "a", of which one is a prefix of the other, are tried in the given order.
longer_first : matches plain (codes "ab") forwards (leaf (string_set (codes "ab" ∷ codes "a" ∷ []) false)) (at 0) ≡ at 2 ∷ at 1 ∷ []
unfolding one_character chars encode character_at read_after any_string same_state
longer_first = refl

shorter_first : matches plain (codes "ab") forwards (leaf (string_set (codes "a" ∷ codes "ab" ∷ []) false)) (at 0) ≡ at 1 ∷ at 2 ∷ []
unfolding one_character chars encode character_at read_after any_string same_state
shorter_first = refl

-- Backwards, each string is still matched as it is written, before the position.
strings_before : matches plain (codes "ab") backwards (leaf (string_set (codes "ab" ∷ codes "ba" ∷ codes "b" ∷ []) false)) (at 2) ≡ at 0 ∷ at 1 ∷ []
unfolding one_character chars encode character_at read_before any_string same_state
strings_before = refl

-- With `icase`, letters match their other case.
strings_in_either_case : matches plain (codes "Ab") forwards (leaf (string_set (codes "aB" ∷ []) true)) (at 0) ≡ at 2 ∷ []
unfolding one_character chars encode character_at read_after any_string same_state small_table mapped
strings_in_either_case = refl

strings_in_one_case : matches plain (codes "Ab") forwards (leaf (string_set (codes "aB" ∷ []) false)) (at 0) ≡ []
unfolding one_character chars encode character_at read_after any_string
strings_in_one_case = refl

-- an empty set of strings, and a set of an empty string
no_string : matches plain (codes "a") forwards (leaf (string_set [] false)) (at 0) ≡ []
unfolding any_string
no_string = refl

an_empty_string : matches plain (codes "a") forwards (leaf (string_set ([] ∷ []) false)) (at 0) ≡ at 0 ∷ []
unfolding any_string same_state
an_empty_string = refl

-- ---- bytes and brackets

-- A byte sequence matches its bytes in the given order, after the position or before it.
bytes_after : matches plain (codes "abab") forwards (leaf (byte_sequence (codes "ab"))) (at 2) ≡ at 4 ∷ []
unfolding these_bytes same_state
bytes_after = refl

bytes_before : matches plain (codes "abab") backwards (leaf (byte_sequence (codes "ab"))) (at 2) ≡ at 0 ∷ []
unfolding these_bytes same_state
bytes_before = refl

other_bytes_before : matches plain (codes "abab") backwards (leaf (byte_sequence (codes "ab"))) (at 3) ≡ []
unfolding these_bytes
other_bytes_before = refl

too_few_bytes_before : matches plain (codes "abab") backwards (leaf (byte_sequence (codes "ab"))) (at 1) ≡ []
unfolding these_bytes
too_few_bytes_before = refl

-- `[^\d]` matches a letter and no digit.
letter_is_no_digit : matches plain (codes "a1") forwards (leaf (bracket true digits)) (at 0) ≡ at 1 ∷ []
unfolding is_member is_within one_character chars encode character_at read_after same_state
letter_is_no_digit = refl

digit_is_one : matches plain (codes "a1") forwards (leaf (bracket true digits)) (at 1) ≡ []
unfolding is_member is_within one_character chars encode character_at read_after
digit_is_one = refl

-- ---- sizes

-- A loop can be unrolled if its minimum is not 0; its account then includes what that can add.
star_stays : loops (wrapped (loop star 0 0) a) ≡ 0
star_stays = refl

twice_is_unrolled : loops (wrapped (loop twice 0 0) (wrapped (loop_one twice) a)) ≡ 1
twice_is_unrolled = refl

account_of_twice : account (wrapped (loop twice 0 0) a) ≡ 6407
account_of_twice = refl

weights : weight (wrapped (loop star 0 0) (wrapped (loop_one star) (leaf (bracket false digits)))) ≡ 10
weights = refl
