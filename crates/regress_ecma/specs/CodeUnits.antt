-- ECMA-262, 6.1.4 and 11.1: strings of UTF-16 code units, and the characters that a pattern and a text are read as.
use Rattle.std.specs.Prelude.{◌≡◌, ℕ, Bool, true, ◌&&◌, ◌||◌, List, [], ◌∷◌, encode_utf8_all, length, map, take, Option, Some, None, nat_le, if◌then◌else◌}
use Rattle.std.specs.Char.Escape.{encode_utf16}
use Rattle.std.specs.Char.Utf16.{is_high_surrogate, is_low_surrogate, surrogate_pair_char}
use Rattle.std.specs.List.{flat_map, list_all}
use Rattle.regress_tree.specs.Steps as Steps
use Rattle.regress_tree.specs.Steps.{Setting}
use Rattle.regress_syntax.specs.Syntax.{Pattern}
use Rattle.regress_ecma.specs.Exec.{Found}
use Rattle.regress_ecma.specs.Notation.{CaptureRange, MatchState}
use Rattle.regress_ecma.specs.SurrogatePairs.{matches_outside_pairs}
use lib.Utf8.{scalar}

-- 11.1.2 CodePointsToString: the code units of each code point, by 11.1.1 UTF16EncodeCodePoint
abbrev pub code_units : List ℕ → List ℕ
code_units = flat_map encode_utf16

-- 11.1.5 StringToCodePoints, by 11.1.4 CodePointAt: a surrogate in no pair is a code point by itself
unfoldable pub code_points : List ℕ → List ℕ
code_points [] = []
code_points (u ∷ []) = u ∷ []
code_points (u ∷ v ∷ units) = if is_high_surrogate u && is_low_surrogate v then surrogate_pair_char u v ∷ code_points units
    else u ∷ code_points (v ∷ units)

-- 22.2.3.3 RegExpInitialize, of the pattern, and 22.2.7.2 RegExpBuiltinExec, of the text: the characters of a string are its
-- code points with u or v, and else its code units
abbrev pub characters : (unicode : Bool) → (string : List ℕ) → List ℕ
characters unicode string = if unicode then code_points string else string

-- a code point that is one character of each string with it: with u no surrogate, without u at most U+FFFF
abbrev pub is_one_character : (unicode : Bool) → ℕ → Bool
is_one_character unicode c = if unicode then scalar c else nat_le c 0xFFFF

-- each of them is one
abbrev pub is_exact : (unicode : Bool) → List ℕ → Bool
is_exact unicode = list_all (is_one_character unicode)

-- ---- positions of a text, as indices of its code units

-- the index at which the code units of the character at a position begin
abbrev pub unit_position : List ℕ → ℕ → ℕ
unit_position text k = length (code_units (take k text))

abbrev pub unit_capture : List ℕ → Option CaptureRange → Option CaptureRange
unit_capture text None = None
unit_capture text (Some range) = Some (unit_position text range.0, unit_position text range.1)

-- a state of the matcher on a text, as one on its code units
abbrev pub in_units : List ℕ → MatchState → MatchState
in_units text x = record {
  input = code_units text;
  end_index = unit_position text x.end_index;
  captures = map (unit_capture text) x.captures;
}

-- a match in a text, as one in its code units
abbrev pub found_in_units : List ℕ → Found → Found
found_in_units text found = (unit_position text found.0, in_units text found.1)

-- the same of the characters of a string
abbrev pub index_of : (unicode : Bool) → List ℕ → ℕ → ℕ
index_of unicode text k = length (characters unicode (code_units (take k text)))

-- ---- indices of a string, as offsets in UTF-8

-- the number of bytes of the code points before an index
abbrev pub utf8_offset : (string : List ℕ) → ℕ → ℕ
utf8_offset string index = length (encode_utf8_all (code_points (take index string)))

abbrev pub utf8_capture : List ℕ → Option CaptureRange → Option CaptureRange
utf8_capture string None = None
utf8_capture string (Some range) = Some (utf8_offset string range.0, utf8_offset string range.1)

-- a match in a string, in these offsets
abbrev pub found_in_utf8 : Found → ℕ × Steps.MatchState
found_in_utf8 (index, x) =
    (utf8_offset x.input index, record { position = utf8_offset x.input x.end_index; captures = map (utf8_capture x.input) x.captures })

-- The characters of the pattern are its code points, and it matches outside of pairs, or those of the text are its code points too.
pub record IsExactFor (setting : Setting) (p : Pattern) (source text : List ℕ) : Type 0 where
  pub pattern : is_exact setting.flags.unicode source ≡ true
  pub input : (matches_outside_pairs setting.table p || is_exact setting.flags.unicode text) ≡ true
