-- The value of an escape of one character, parsed after its backslash (ECMA-262, CharacterEscape, with Annex B).
use Rattle.std.specs.Prelude.{ℕ, ◌+◌, ◌-◌, ◌*◌, ◌/◌, ◌%◌, Bool, false, not, ◌&&◌, ◌||◌, [], ◌∷◌, length, take, drop, Option, Some, None, if◌then◌else◌, nat_le, ◌==◌}
use Rattle.regress_base.specs.Intervals.{code_point_max}
use Rattle.regress_lexer.specs.Source.{Source, Found, ◌>>=◌, char, is_one_of, is_at}
use Rattle.regress_lexer.specs.declared.dialect.Dialect.{Dialect}
use Rattle.regress_lexer.specs.Dialects.{is_lone_u}
use Rattle.regress_lexer.specs.Digits.{is_between, is_decimal, is_octal, is_letter, is_hex, number, front, after, hex_at, control}

-- at least one hexadecimal digit and `}`, after a `{`, with the value of a code point
abbrev pub braced_hex_at : Source → Found ℕ
braced_hex_at t =
    let digits = front is_hex t in
    let rest = after is_hex t in
    if not (length digits == 0) && is_at (char "}") rest && nat_le (number 16 digits) code_point_max
    then Some (number 16 digits, drop 1 rest)
    else None

-- `\u` and four hexadecimal digits
abbrev pub unit_at : Source → Found ℕ
unit_at t = if is_at (char "\\") t && is_at (char "u") (drop 1 t) then hex_at 4 (drop 2 t) else None

-- such an escape with the value of a trailing surrogate
abbrev pub trail_surrogate_at : Source → Found ℕ
trail_surrogate_at t = unit_at t >>= λ (low, rest). if is_between 0xDC00 0xDFFF low then Some (low, rest) else None

-- the code point of a surrogate pair (ECMA-262, UTF16SurrogatePairToCodePoint)
abbrev pub paired : ℕ → ℕ → ℕ
paired high low = 0x10000 + (high - 0xD800) * 0x400 + (low - 0xDC00)

-- the surrogates of a code point above U+FFFF (ECMA-262, UTF16EncodeCodePoint)
abbrev pub lead_surrogate : ℕ → ℕ
lead_surrogate c = 0xD800 + (c - 0x10000) / 0x400

abbrev pub trail_surrogate : ℕ → ℕ
trail_surrogate c = 0xDC00 + (c - 0x10000) % 0x400

-- A leading surrogate is combined with a trailing one if its escape follows.
abbrev pub with_trail_surrogate : ℕ × Source → Found ℕ
with_trail_surrogate (high, t) =
    if is_between 0xD800 0xDBFF high
    then elim (trail_surrogate_at t) [ None ↦ Some (high, t) | Some second ↦ Some (paired high second.0, second.1) ]
    else Some (high, t)

-- what follows `\u`, with its value (ECMA-262, RegExpUnicodeEscapeSequence)
unfoldable pub unicode_at : Source → Found ℕ
unicode_at t = if is_at (char "{") t then braced_hex_at (drop 1 t) else hex_at 4 t >>= with_trail_surrogate

-- If no value is found, the escape is the letter itself without the flag u, and invalid with it.
abbrev pub or_identity_escape : Bool → ℕ → Source → Found ℕ → Found ℕ
or_identity_escape unicode c t None = if unicode then None else Some (c, t)
or_identity_escape unicode c t (Some x) = Some x

-- the octal digits at the start: at most three if the first one is 0 to 3, otherwise at most two (ECMA-262,
-- LegacyOctalEscapeSequence)
abbrev pub octal_digits : ℕ → Source → Source
octal_digits c t = front is_octal (take (if nat_le c (char "3") then 3 else 2) (c ∷ t))

-- the code points that a backslash makes literal: syntax characters and `/` (ECMA-262, IdentityEscape)
abbrev pub is_syntax_character : ℕ → Bool
is_syntax_character c = is_one_of "^$\\.*+?()[]{}|/" c

-- the escapes of one letter: f, n, r, t and v (ECMA-262, ControlEscape)
abbrev pub letter_escape : ℕ → Option ℕ
letter_escape c =
    if c == char "f" then Some 0xC
    else if c == char "n" then Some 0xA
    else if c == char "r" then Some 0xD
    else if c == char "t" then Some 0x9
    else if c == char "v" then Some 0xB
    else None

-- whether the source starts with a decimal digit
abbrev pub begins_with_digit : Source → Bool
begins_with_digit [] = false
begins_with_digit (d ∷ t) = is_decimal d

-- whether the source starts with an ASCII letter
abbrev pub begins_with_letter : Source → Bool
begins_with_letter [] = false
begins_with_letter (d ∷ t) = is_letter d

-- a letter after `\c`, whose value is its code modulo 32
abbrev pub control_at : Source → Found ℕ
control_at [] = None
control_at (d ∷ t) = if is_letter d then Some (control d, t) else None

-- an escape that begins with c and is no control escape
abbrev pub other_escape : Bool → ℕ → Source → Found ℕ
other_escape unicode c t =
    if c == char "c" then control_at t
    -- 0, if no digit follows
    else if c == char "0" && not (begins_with_digit t) then Some (0, t)
    -- x and two hexadecimal digits
    else if c == char "x" then or_identity_escape unicode c t (hex_at 2 t)
    else if c == char "u" then or_identity_escape unicode c t (unicode_at t)
    else if not unicode && is_octal c then Some (number 8 (octal_digits c t), drop (length (octal_digits c t)) (c ∷ t))
    else if is_syntax_character c || not unicode then Some (c, t)
    else None

-- an escape, parsed after its backslash
unfoldable pub escape_at : Bool → Source → Found ℕ
escape_at unicode [] = None
escape_at unicode (c ∷ t) = elim (letter_escape c) [ None ↦ other_escape unicode c t | Some x ↦ Some (x, t) ]

-- The same in a dialect, where braces may make no escape: then a `u` before them is a letter.
abbrev pub character_escape_at : Dialect → Bool → Source → Found ℕ
character_escape_at dialect unicode [] = None
character_escape_at dialect unicode (c ∷ t) = if is_lone_u dialect unicode c t then Some (c, t) else escape_at unicode (c ∷ t)
