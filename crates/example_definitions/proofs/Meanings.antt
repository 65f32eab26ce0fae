-- Examples: what patterns match on texts, computed from the definitions. The first outcome from each position is the
-- result of a sticky match of V8 11.3 there. The other outcomes follow from the rules of ECMA-262, as do those of
-- patterns with modifiers or several groups of one name, and those that match characters past U+FFFF. The same holds
-- for the other files of meanings.
use Rattle.std.proofs.Common.{◌≡◌, ℕ, true, List, [], ◌∷◌, map, length, Option, Some, None, option_map, encode_utf8_all, refl, codes}
use Rattle.std.specs.Char.{encode_utf8}
use Rattle.std.specs.Str.{chars}
use Rattle.std.proofs.Math.ListN.{replicate}
pub use Rattle.regress_base.specs.NoFlags.{no_flags}
use Rattle.regress_base.specs.Intervals.{Bounds, is_member, is_within}
use Rattle.regress_unicode.specs.FoldEntries.{mapped}
use Rattle.regress_tree.specs.Lookaround.{lookaround_matcher}
use Rattle.regress_tree.specs.Reading.{forwards, byte_position, character_at, read_after, read_before}
use Rattle.regress_tree.specs.References.{back_reference, any_string}
use Rattle.regress_tree.specs.Repetition.{repeat_matcher}
use Rattle.regress_unicode.specs.SmallTable.{small_table}
use Rattle.regress_tree.specs.Steps.{CaptureSpan, MatchState, byte_state, one_character, hold_at, capture as captures, same_state, Setting}
use Rattle.regress_base.specs.Table.{Table, named as value_named, is_in_closure}
use Rattle.regress_tree.specs.Matching.{matches}
use Rattle.regress_classes.specs.ClassProductions.{class_at, class_parts_by}
use Rattle.regress_classes.specs.ClassSets.{class_set_by, parts_by, operands_by, operand_at, set_character_at, strings_by}
use Rattle.regress_lexer.specs.declared.dialect.Dialect.{Dialect}
use Rattle.regress_lexer.specs.declared.dialect.Dialect.TheVariants.{Regress}
use Rattle.regress_lexer.specs.Digits.{front, after}
use Rattle.regress_lexer.specs.Escapes.{escape_at, unicode_at}
use Rattle.regress_syntax.specs.Meaning.{meaning}
use Rattle.regress_lexer.specs.Modifiers.{modifiers_at}
use Rattle.regress_syntax.specs.Names.{name_at, rest_of_name_by}
use Rattle.regress_classes.specs.Properties.{property_at}
use Rattle.regress_lexer.specs.Quantifiers.{quantifier_at}
use Rattle.regress_syntax.specs.Productions.{Context, head_at, optional_quantifier_at}
use Rattle.regress_syntax.specs.Scan.{tokens, plain as outside_classes, named_by}
use Rattle.regress_lexer.specs.Source.{Source, Found}
use Rattle.regress_syntax.specs.Syntax.{Name, Pattern, counts}
use Rattle.regress_parse.specs.Reader.{parse_terms, pattern_at}
use Rattle.regress_parse.specs.TreeOf.{tree_of}

-- Each character is its own canonical form, and no property has a name.
abbrev pub empty_table : Table
empty_table = record {
  fold = λ c. c;
  uppercase = λ c. c;
  id_start = [];
  id_continue = [];
  general_category = [];
  script = [];
  script_extensions = [];
  binary = [];
  strings = [];
}

abbrev pub run : ℕ → ℕ → Bounds
run first last = record { first = first; last = last }

-- settings, by their flags
abbrev pub plain : Setting
plain = record { flags = no_flags; table = empty_table }

abbrev pub dot_all : Setting
dot_all = record plain { flags = record no_flags { dot_all = true } }

abbrev pub multiline : Setting
multiline = record plain { flags = record no_flags { multiline = true } }

-- with names of small letters
abbrev pub named : Setting
named = record plain { table = record empty_table { id_start = run 97 122 ∷ []; id_continue = run 97 122 ∷ [] } }

-- with the letters of the small table
abbrev pub unicode : Setting
unicode = record { flags = record no_flags { unicode = true }; table = small_table }

abbrev pub icase : Setting
icase = record { flags = record no_flags { icase = true }; table = small_table }

abbrev pub icase_unicode : Setting
icase_unicode = record { flags = record no_flags { icase = true; unicode = true }; table = small_table }

abbrev whole : Found Pattern → Option Pattern
whole None = None
whole (Some (p, [])) = Some p
whole (Some (p, c ∷ rest)) = None

abbrev of_groups : Dialect → Setting → List (Option Name) → Context
of_groups dialect setting names = record { dialect = dialect; setting = setting; groups = length names; names = names }

-- the context with the groups that the scan finds in the source
unfoldable pub context : Dialect → Setting → Source → Context
unfolding tokens name_at rest_of_name_by unicode_at is_member is_within
context dialect setting source =
    of_groups dialect setting (named_by (tokens setting.flags.unicode_sets setting.table outside_classes source))

-- the pattern that the whole source is in a dialect, or `None`
unfoldable pub pattern_in : Dialect → Setting → Source → Option Pattern
unfolding context pattern_at parse_terms head_at optional_quantifier_at quantifier_at front after escape_at class_at class_parts_by
    class_set_by parts_by operands_by operand_at set_character_at strings_by property_at value_named modifiers_at
pattern_in dialect setting source = whole (pattern_at (context dialect setting source) source)

-- the same in the dialect of `try_parse`
unfoldable pub pattern_of : Setting → Source → Option Pattern
unfolding pattern_in
pattern_of setting source = pattern_in Regress setting source

-- a position where all groups of the pattern are unset
abbrev pub start : Pattern → ℕ → MatchState
start p position = record { position = position; captures = replicate (counts p).groups None }

-- the outcomes of the pattern on the text, from each of the positions
unfoldable pub outcomes : Dialect → Setting → Source → List ℕ → List ℕ → Option (List (List MatchState))
unfolding pattern_in one_character hold_at captures repeat_matcher lookaround_matcher back_reference any_string same_state is_in_closure mapped small_table
outcomes dialect setting source text positions =
    option_map (λ p. map (λ k. meaning setting text forwards p (start p k)) positions) (pattern_in dialect setting source)

-- the outcomes of the pattern's tree on the bytes of the text, from the same positions
unfoldable pub tree_outcomes : Dialect → Setting → Source → List ℕ → List ℕ → Option (List (List MatchState))
unfolding outcomes chars encode_utf8 character_at read_after read_before byte_position
tree_outcomes dialect setting source text positions =
    option_map
    (λ p. map (λ k. matches setting (encode_utf8_all text) forwards (tree_of setting.table p) (byte_state text (start p k))) positions)
    (pattern_in dialect setting source)

-- a position, and the outcomes from there
abbrev pub TestCase : Type 0
TestCase = ℕ × List MatchState

-- The source is a pattern of the dialect with these outcomes on the text, and its tree has the same, as byte offsets.
unfoldable pub GivesIn : Dialect → Setting → Source → List ℕ → List TestCase → Type 0
unfolding outcomes tree_outcomes
GivesIn dialect setting source text searches =
    (outcomes dialect setting source text (map (λ r. r.0) searches) ≡ Some (map (λ r. r.1) searches))
    × (tree_outcomes dialect setting source text (map (λ r. r.0) searches) ≡ Some (map (λ r. map (byte_state text) r.1) searches))

-- the same in the dialect of `try_parse`
unfoldable pub Gives : Setting → Source → List ℕ → List TestCase → Type 0
unfolding GivesIn
Gives = GivesIn Regress

-- short forms of test cases and outcomes: a position, and the capture of each group
abbrev pub from : ℕ → List MatchState → TestCase
from position states = (position, states)

abbrev pub at : ℕ → List (Option CaptureSpan) → MatchState
at position spans = record { position = position; captures = spans }

abbrev pub unset : Option CaptureSpan
unset = None

abbrev pub span : ℕ → ℕ → Option CaptureSpan
span first last = Some (first, last)

-- ---- alternatives, groups and `.`

the_empty_pattern_matches_at_each_position : Gives plain [] (codes "ab")
    (from 0 (at 0 [] ∷ []) ∷ from 1 (at 1 [] ∷ []) ∷ from 2 (at 2 [] ∷ []) ∷ [])
unfolding Gives
the_empty_pattern_matches_at_each_position = (refl, refl)

a_letter_matches_itself : Gives plain (codes "a") (codes "ab") (from 0 (at 1 [] ∷ []) ∷ from 1 [] ∷ from 2 [] ∷ [])
unfolding Gives
a_letter_matches_itself = (refl, refl)

letters_match_in_sequence : Gives plain (codes "ab") (codes "ab") (from 0 (at 2 [] ∷ []) ∷ from 1 [] ∷ from 2 [] ∷ [])
unfolding Gives
letters_match_in_sequence = (refl, refl)

an_earlier_alternative_comes_first : Gives plain (codes "a|ab") (codes "ab") (from 0 (at 1 [] ∷ at 2 [] ∷ []) ∷ from 1 [] ∷ from 2 [] ∷ [])
unfolding Gives
an_earlier_alternative_comes_first = (refl, refl)

a_longer_alternative_may_come_first : Gives plain (codes "ab|a") (codes "ab") (from 0 (at 2 [] ∷ at 1 [] ∷ []) ∷ from 1 [] ∷ from 2 [] ∷ [])
unfolding Gives
a_longer_alternative_may_come_first = (refl, refl)

a_repeated_outcome_is_dropped : Gives plain (codes "a|a") (codes "a") (from 0 (at 1 [] ∷ []) ∷ from 1 [] ∷ [])
unfolding Gives
a_repeated_outcome_is_dropped = (refl, refl)

each_way_on_keeps_its_captures : Gives plain (codes "(a|ab)(c|bcd)") (codes "abcd")
    (from 0 (at 4 (span 0 1 ∷ span 1 4 ∷ []) ∷ at 3 (span 0 2 ∷ span 2 3 ∷ []) ∷ []) ∷ from 2 [] ∷ from 4 [] ∷ [])
unfolding Gives
each_way_on_keeps_its_captures = (refl, refl)

an_inner_group_passed_by_is_unset : Gives plain (codes "((a)|b)") (codes "b") (from 0 (at 1 (span 0 1 ∷ unset ∷ []) ∷ []) ∷ from 1 [] ∷ [])
unfolding Gives
an_inner_group_passed_by_is_unset = (refl, refl)

the_other_alternative_is_unset : Gives plain (codes "(a)|(b)") (codes "b") (from 0 (at 1 (unset ∷ span 0 1 ∷ []) ∷ []) ∷ from 1 [] ∷ [])
unfolding Gives
the_other_alternative_is_unset = (refl, refl)

groups_may_capture_nothing : Gives plain (codes "(|a)(|b)") (codes "ab")
    (from 0 (at 0 (span 0 0 ∷ span 0 0 ∷ []) ∷ at 1 (span 0 1 ∷ span 1 1 ∷ []) ∷ at 2 (span 0 1 ∷ span 1 2 ∷ []) ∷ []) ∷
    from 1 (at 1 (span 1 1 ∷ span 1 1 ∷ []) ∷ at 2 (span 1 1 ∷ span 1 2 ∷ []) ∷ []) ∷
    from 2 (at 2 (span 2 2 ∷ span 2 2 ∷ []) ∷ []) ∷ [])
unfolding Gives
groups_may_capture_nothing = (refl, refl)

empty_alternatives_match : Gives plain (codes "|a|") (codes "a") (from 0 (at 0 [] ∷ at 1 [] ∷ []) ∷ from 1 (at 1 [] ∷ []) ∷ [])
unfolding Gives
empty_alternatives_match = (refl, refl)

dot_stops_at_a_line_feed : Gives plain (codes ".") (0xA ∷ []) (from 0 [] ∷ from 1 [] ∷ [])
unfolding Gives
dot_stops_at_a_line_feed = (refl, refl)

dot_takes_a_line_feed_with_s : Gives dot_all (codes ".") (0xA ∷ []) (from 0 (at 1 [] ∷ []) ∷ from 1 [] ∷ [])
unfolding Gives
dot_takes_a_line_feed_with_s = (refl, refl)

dot_stops_at_a_line_separator : Gives plain (codes ".") (0x2028 ∷ []) (from 0 [] ∷ from 1 [] ∷ [])
unfolding Gives
dot_stops_at_a_line_separator = (refl, refl)

dot_takes_a_next_line : Gives plain (codes ".") (0x85 ∷ []) (from 0 (at 1 [] ∷ []) ∷ from 1 [] ∷ [])
unfolding Gives
dot_takes_a_next_line = (refl, refl)

dot_takes_two_bytes : Gives plain (codes ".b") (0xE9 ∷ 98 ∷ []) (from 0 (at 2 [] ∷ []) ∷ from 1 [] ∷ from 2 [] ∷ [])
unfolding Gives
dot_takes_two_bytes = (refl, refl)

dot_takes_four_bytes : Gives dot_all (codes "..") (0x1F600 ∷ 97 ∷ []) (from 0 (at 2 [] ∷ []) ∷ from 1 [] ∷ from 2 [] ∷ [])
unfolding Gives
dot_takes_four_bytes = (refl, refl)

groups_occur_inside_groupings : Gives plain (codes "(?:a|(b))(?:c|(d))") (codes "bd")
    (from 0 (at 2 (span 0 1 ∷ span 1 2 ∷ []) ∷ []) ∷ from 1 [] ∷ from 2 [] ∷ [])
unfolding Gives
groups_occur_inside_groupings = (refl, refl)
