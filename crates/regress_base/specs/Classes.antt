-- The character classes that a pattern can name, as lists of intervals (ECMA-262, sections 12.2, 12.3 and 22.2.2.9).
use Rattle.std.specs.Prelude.{ℕ, List, [], ◌∷◌}
use Rattle.regress_base.specs.Intervals.{Bounds}

abbrev interval : ℕ → ℕ → Bounds
interval first last = record { first = first; last = last }

abbrev one : ℕ → Bounds
one c = interval c c

-- `\d`: 0 to 9
abbrev pub digits : List Bounds
digits = interval 0x30 0x39 ∷ []

-- `\w`: 0 to 9, A to Z, the low line, a to z (basicWordChars of WordCharacters)
abbrev pub word_characters : List Bounds
word_characters = interval 0x30 0x39 ∷ interval 0x41 0x5A ∷ one 0x5F ∷ interval 0x61 0x7A ∷ []

-- WhiteSpace: tab, line tabulation, form feed, zero width no-break space and the space separators. The first interval
-- also contains U+000A, which is a line terminator.
abbrev pub white_space : List Bounds
white_space =
    interval 0x9 0xC ∷ one 0x20 ∷ one 0xA0 ∷ one 0x1680 ∷ interval 0x2000 0x200A ∷ one 0x202F
    ∷ one 0x205F ∷ one 0x3000 ∷ one 0xFEFF ∷ []

-- LineTerminator: line feed, carriage return, line separator, paragraph separator
abbrev pub line_terminators : List Bounds
line_terminators = one 0xA ∷ one 0xD ∷ interval 0x2028 0x2029 ∷ []
