-- Assertions about a position of a text: anchors and word boundaries (ECMA-262, CompileAssertion).
use Rattle.std.specs.Prelude.{ℕ, Bool, false, not, ◌&&◌, ◌||◌, ◌==◌, Option, Some, None, if◌then◌else◌}
use Rattle.regress_base.specs.Classes.{line_terminators, word_characters}
use Rattle.regress_base.specs.Intervals.{is_member}
use Rattle.regress_base.specs.declared.types.AnchorType.{AnchorType}
use Rattle.regress_base.specs.declared.types.AnchorType.TheVariants.{StartOfLine, EndOfLine}
use Rattle.regress_tree.specs.Reading.{Reading, Read}
use Rattle.regress_base.specs.Table.{Table, is_in_closure}

-- ECMA-262, LineTerminator
abbrev pub is_line_terminator : ℕ → Bool
is_line_terminator = is_member line_terminators

-- The word characters (ECMA-262, WordCharacters): the basic ones, and with `unicode_icase` their closure.
abbrev pub is_word_character : Table → (unicode_icase : Bool) → ℕ → Bool
is_word_character table unicode_icase c =
    if unicode_icase then is_in_closure table word_characters c else is_member word_characters c

-- There is a neighbouring character, and it passes the test.
abbrev pub passes : (ℕ → Bool) → Option Read → Bool
passes test None = false
passes test (Some read) = test read.character

-- The position is the start or the end of the text, or with `multiline` the neighbour on that side is a line terminator
-- (ECMA-262, CompileAssertion, `^` and `$`).
abbrev pub at_anchor : Reading → AnchorType → (multiline : Bool) → ℕ → Bool
at_anchor r StartOfLine multiline k = (k == 0) || (multiline && passes is_line_terminator (r.before k))
at_anchor r EndOfLine multiline k = (k == r.length) || (multiline && passes is_line_terminator (r.after k))

-- exactly one of the two holds
abbrev pub differ : Bool → Bool → Bool
differ a b = if a then not b else b

-- Exactly one of the neighbours is a word character; if inverted, both or neither are (ECMA-262, CompileAssertion, `\b`
-- and `\B`).
abbrev pub at_boundary : Reading → (ℕ → Bool) → (invert : Bool) → ℕ → Bool
at_boundary r is_word invert k = differ invert (differ (passes is_word (r.before k)) (passes is_word (r.after k)))
