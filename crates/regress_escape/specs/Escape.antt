-- The pattern that matches a text (ECMA-262, RegExp.escape).
use Rattle.std.specs.Prelude.{ℕ, zero, suc, ◌/◌, ◌%◌, Bool, ◌||◌, List, [], ◌∷◌, ◌++◌, Option, Some, None, codes, flat_map, if◌then◌else◌, nat_le, ◌==◌}
use Rattle.std.specs.Char.{digit_char}
use Rattle.regress_base.specs.Classes.{white_space, line_terminators}
use Rattle.regress_base.specs.Intervals.{is_member}
use Rattle.regress_lexer.specs.Source.{Source, char, is_one_of}
use Rattle.regress_lexer.specs.Digits.{is_decimal, is_letter}
use Rattle.regress_lexer.specs.Escapes.{is_syntax_character}

-- the last n hexadecimal digits of c, in lower case
abbrev pub hex_digits : ℕ → ℕ → Source
hex_digits zero c = []
hex_digits (suc n) c = hex_digits n (c / 16) ++ digit_char (c % 16) ∷ []

-- The escape of a character by its code: `\x` and two digits or, above U+00FF, `\u` and four. No character above U+FFFF
-- is escaped.
abbrev pub numeric_escape : ℕ → Source
numeric_escape c = if nat_le c 0xFF then codes "\\x" ++ hex_digits 2 c else codes "\\u" ++ hex_digits 4 c

-- the letter of the escape of a control character, if it has one (ECMA-262, ControlEscape)
abbrev pub control_letter : ℕ → Option ℕ
control_letter c =
    if c == 0x9 then Some (char "t")
    else if c == 0xA then Some (char "n")
    else if c == 0xB then Some (char "v")
    else if c == 0xC then Some (char "f")
    else if c == 0xD then Some (char "r")
    else None

-- a punctuator that is no syntax character (ECMA-262, EncodeForRegExpEscape, otherPunctuators)
abbrev pub is_other_punctuator : ℕ → Bool
is_other_punctuator = is_one_of ",-=<>#&!%:;@~'`\""

-- WhiteSpace or LineTerminator
abbrev pub is_space : ℕ → Bool
is_space c = is_member white_space c || is_member line_terminators c

-- a character that is no syntax character: escaped by a letter, escaped by its code, or as it is
abbrev pub encoded_by : Option ℕ → ℕ → Source
encoded_by (Some letter) c = char "\\" ∷ letter ∷ []
encoded_by None c = if is_other_punctuator c || is_space c then numeric_escape c else c ∷ []

-- a character, escaped if it has to be (ECMA-262, EncodeForRegExpEscape)
abbrev pub encoded : ℕ → Source
encoded c = if is_syntax_character c then char "\\" ∷ c ∷ [] else encoded_by (control_letter c) c

-- The first character of a text. A digit or a letter is escaped too, so that it does not continue an escape before the
-- pattern.
abbrev pub encoded_first : ℕ → Source
encoded_first c = if is_decimal c || is_letter c then numeric_escape c else encoded c

-- the pattern that matches a text, which has no surrogates (ECMA-262, RegExp.escape)
abbrev pub escaped : List ℕ → Source
escaped [] = []
escaped (c ∷ cs) = encoded_first c ++ flat_map encoded cs
