-- ECMA-262 (2025), 22.2.1 Patterns with B.1.2: CharacterEscape. Each nonterminal is a function from a source to the value of
-- what it derives at its start (22.2.1.7 CharacterValue), and what remains. The parameters [UnicodeMode] and
-- [NamedCaptureGroups] are `unicode` and `named`.
use Rattle.std.specs.Prelude.{ℕ, ◌+◌, ◌-◌, ◌*◌, ◌/◌, ◌%◌, Bool, false, not, ◌&&◌, List, [], ◌∷◌, length, drop, Some, None, if◌then◌else◌, nat_le, ◌==◌}
use Rattle.std.specs.Option.{option_or}
use Rattle.regress_base.specs.Intervals.{code_point_max}
use Rattle.regress_lexer.specs.Source.{Source, Found, ◌>>=◌, char, is_one_of, is_at}
use Rattle.regress_lexer.specs.Digits.{is_between, is_decimal, is_octal, is_hex, is_letter, number, front, after, hex_at}

-- ---- alternatives and terminals

-- B.1.2: each alternative is considered only if previous production alternatives do not match.
abbrev pub first_of : {A : Type 0} → List (Found A) → Found A
first_of [] = None
first_of (found ∷ others) = option_or found (first_of others)

-- an alternative with a parameter, such as [+UnicodeMode]
abbrev pub given : {A : Type 0} → Bool → Found A → Found A
given parameter found = if parameter then found else None

-- the terminal c, with a value
abbrev pub terminal : {A : Type 0} → (c : ℕ) → (value : A) → Source → Found A
terminal c value [] = None
terminal c value (d ∷ t) = if d == c then Some (value, t) else None

-- the terminal c, and what comes next
abbrev pub led_by : {A : Type 0} → (c : ℕ) → (next : Source → Found A) → Source → Found A
led_by c next [] = None
led_by c next (d ∷ t) = if d == c then next t else None

-- [lookahead ∈ ..]: the source begins with such a character.
abbrev pub is_before : (ℕ → Bool) → Source → Bool
is_before p [] = false
is_before p (c ∷ t) = p c

-- ---- characters

-- 11.1.1 UTF16EncodeCodePoint: the two code units of a code point above U+FFFF
abbrev pub lead_unit : ℕ → ℕ
lead_unit c = 0xD800 + (c - 0x10000) / 0x400

abbrev pub trail_unit : ℕ → ℕ
trail_unit c = 0xDC00 + (c - 0x10000) % 0x400

-- 11.1.3 UTF16SurrogatePairToCodePoint
abbrev pub pair_value : (lead trail : ℕ) → ℕ
pair_value lead trail = 0x10000 + (lead - 0xD800) * 0x400 + (trail - 0xDC00)

-- SourceCharacter. Without the flag u a pattern is parsed as code units (22.2.3.4 ParsePattern): a code point above U+FFFF
-- is its lead surrogate, and its trail surrogate remains.
abbrev pub source_character : (unicode : Bool) → Source → Found ℕ
source_character unicode [] = None
source_character unicode (c ∷ t) =
    if not unicode && nat_le 0x10000 c then Some (lead_unit c, trail_unit c ∷ t) else Some (c, t)

-- SourceCharacter but not one of these
abbrev pub source_character_but : (unicode : Bool) → (excluded : ℕ → Bool) → Source → Found ℕ
source_character_but unicode excluded t = if is_before excluded t then None else source_character unicode t

-- SyntaxCharacter
abbrev pub is_syntax_character : ℕ → Bool
is_syntax_character = is_one_of "^$\\.*+?()[]{}|"

-- a character that passes a test
abbrev pub one_such : (ℕ → Bool) → Source → Found ℕ
one_such p [] = None
one_such p (c ∷ t) = if p c then Some (c, t) else None

-- ---- escapes by number

-- Hex4Digits, whose MV is in a range: HexLeadSurrogate, HexTrailSurrogate and HexNonSurrogate
abbrev pub hex_4_digits : (ℕ → Bool) → Source → Found ℕ
hex_4_digits p t = hex_at 4 t >>= λ (value, rest). if p value then Some (value, rest) else None

abbrev pub is_lead : ℕ → Bool
is_lead = is_between 0xD800 0xDBFF

abbrev pub is_trail : ℕ → Bool
is_trail = is_between 0xDC00 0xDFFF

-- `\u` HexTrailSurrogate
abbrev pub escaped_trail : Source → Found ℕ
escaped_trail t = led_by (char "\\") (led_by (char "u") (hex_4_digits is_trail)) t

-- HexLeadSurrogate `\u` HexTrailSurrogate
abbrev pub hex_pair : Source → Found ℕ
hex_pair t = hex_4_digits is_lead t >>= λ (lead, u). escaped_trail u >>= λ (trail, rest). Some (pair_value lead trail, rest)

-- `{` CodePoint `}`: HexDigits whose MV is at most 0x10FFFF
abbrev pub code_point : Source → Found ℕ
code_point t =
    if not (length (front is_hex t) == 0) && is_at (char "}") (after is_hex t) && nat_le (number 16 (front is_hex t)) code_point_max
    then Some (number 16 (front is_hex t), drop 1 (after is_hex t))
    else None

-- RegExpUnicodeEscapeSequence
abbrev pub unicode_escape : (unicode : Bool) → Source → Found ℕ
unicode_escape unicode t =
    first_of (
    given unicode (led_by (char "u") hex_pair t)
    ∷ given unicode (led_by (char "u") (hex_4_digits is_lead) t)
    ∷ given unicode (led_by (char "u") (hex_4_digits is_trail) t)
    ∷ given unicode (led_by (char "u") (hex_4_digits (λ value. not (is_between 0xD800 0xDFFF value))) t)
    ∷ given (not unicode) (led_by (char "u") (hex_at 4) t)
    ∷ given unicode (led_by (char "u") (led_by (char "{") code_point) t) ∷ [])

-- 12.9.4.1 LegacyOctalEscapeSequence
abbrev pub zero_before_8_or_9 : Source → Found ℕ
zero_before_8_or_9 [] = None
zero_before_8_or_9 (c ∷ t) = if c == char "0" && is_before (is_one_of "89") t then Some (0, t) else None

abbrev pub one_octal_digit : Source → Found ℕ
one_octal_digit [] = None
one_octal_digit (c ∷ t) = if is_between (char "1") (char "7") c && not (is_before is_octal t) then Some (number 8 (c ∷ []), t) else None

abbrev pub two_octal_digits : Source → Found ℕ
two_octal_digits [] = None
two_octal_digits (c ∷ []) = None
two_octal_digits (c ∷ d ∷ t) =
    if is_between (char "0") (char "3") c && is_octal d && not (is_before is_octal t) then Some (number 8 (c ∷ d ∷ []), t) else None

abbrev pub four_to_seven : Source → Found ℕ
four_to_seven [] = None
four_to_seven (c ∷ []) = None
four_to_seven (c ∷ d ∷ t) = if is_between (char "4") (char "7") c && is_octal d then Some (number 8 (c ∷ d ∷ []), t) else None

abbrev pub three_octal_digits : Source → Found ℕ
three_octal_digits [] = None
three_octal_digits (c ∷ []) = None
three_octal_digits (c ∷ d ∷ []) = None
three_octal_digits (c ∷ d ∷ e ∷ t) =
    if is_between (char "0") (char "3") c && is_octal d && is_octal e then Some (number 8 (c ∷ d ∷ e ∷ []), t) else None

abbrev pub legacy_octal_escape : Source → Found ℕ
legacy_octal_escape t =
    first_of (zero_before_8_or_9 t ∷ one_octal_digit t ∷ two_octal_digits t ∷ four_to_seven t ∷ three_octal_digits t ∷ [])

-- ---- CharacterEscape

-- ControlEscape, with its values
abbrev pub control_escape : Source → Found ℕ
control_escape t =
    first_of (
    terminal (char "f") 0xC t
    ∷ terminal (char "n") 0xA t
    ∷ terminal (char "r") 0xD t
    ∷ terminal (char "t") 0x9 t
    ∷ terminal (char "v") 0xB t ∷ [])

-- AsciiLetter, after `c`: its code modulo 32
abbrev pub control_letter : (ℕ → Bool) → Source → Found ℕ
control_letter p t = one_such p t >>= λ (c, rest). Some (c % 32, rest)

-- `0` [lookahead ∉ DecimalDigit]
abbrev pub null_escape : Source → Found ℕ
null_escape [] = None
null_escape (c ∷ t) = if c == char "0" && not (is_before is_decimal t) then Some (0, t) else None

-- SourceCharacterIdentityEscape
abbrev pub is_no_identity : (named : Bool) → ℕ → Bool
is_no_identity named c = if named then is_one_of "ck" c else c == char "c"

-- IdentityEscape
abbrev pub identity_escape : (unicode named : Bool) → Source → Found ℕ
identity_escape unicode named t =
    first_of (
    given unicode (one_such is_syntax_character t)
    ∷ given unicode (terminal (char "/") (char "/") t)
    ∷ given (not unicode) (source_character_but unicode (is_no_identity named) t) ∷ [])

abbrev pub character_escape : (unicode named : Bool) → Source → Found ℕ
character_escape unicode named t =
    first_of (
    control_escape t
    ∷ led_by (char "c") (control_letter is_letter) t
    ∷ null_escape t
    ∷ led_by (char "x") (hex_at 2) t
    ∷ unicode_escape unicode t
    ∷ given (not unicode) (legacy_octal_escape t)
    ∷ identity_escape unicode named t ∷ [])
