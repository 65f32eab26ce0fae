-- What is warned of in a class: all characters from an upper-case to a lower-case ASCII letter, or an ASCII character
-- that is written twice.
use Rattle.std.specs.Prelude.{◌≡◌, ℕ, zero, suc, ◌-◌, Bool, true, false, not, ◌&&◌, ◌||◌, ◌==◌, nat_le, List, [], ◌∷◌, length, take, drop, Some, None, if◌then◌else◌}
use Rattle.std.specs.List.{list_any}
use Rattle.regress_base.specs.Intervals.{Bounds, code_point_max}
use Rattle.regress_lexer.specs.Digits.{is_decimal, is_letter}
use Rattle.regress_lexer.specs.Escapes.{escape_at}
use Rattle.regress_lexer.specs.Source.{Source, char, is_at, is_one_of}
use Rattle.regress_parse.specs.declared.span.Span.{Span}

-- ---- ranges of letters

-- The first is an upper-case and the last a lower-case letter. Between these are `[`, `\`, `]`, `^`, `_` and the grave
-- accent.
abbrev pub is_letter_range : Bounds → Bool
is_letter_range b = nat_le (char "A") b.first && nat_le b.first (char "Z") && nat_le (char "a") b.last && nat_le b.last (char "z")

-- One of the intervals of a set does.
abbrev pub has_letter_range : List Bounds → Bool
has_letter_range = list_any is_letter_range

-- ---- what is written

-- the source without a `^` at its start
abbrev pub after_caret : Source → Source
after_caret t = if is_at (char "^") t then drop 1 t else t

-- what is between the brackets of a class with this span
abbrev pub inside : Source → Span → Source
inside source span = after_caret (take (span.end - span.start - 2) (drop 1 (drop span.start source)))

-- a number in place of a class escape or a property, which is no character
abbrev pub no_member : ℕ
no_member = 0x110000

-- one in place of an escaped hyphen, which begins no range
abbrev pub no_hyphen : ℕ
no_hyphen = 0x110001

-- the source after the next `}`
abbrev pub after_brace : Source → Source
after_brace [] = []
after_brace (c ∷ t) = if c == char "}" then t else after_brace t

-- an escape that starts with c, after its backslash, other than one of a code point under the flag u
abbrev pub other_member : ℕ → Source → ℕ × Source
other_member c t =
    if is_one_of "pP" c && is_at (char "{") t then (no_member, after_brace t)
    else if c == char "-" then (no_hyphen, t)
    else if is_letter c || is_decimal c then (no_member, t)
    else (c, t)

-- the member that an escape is, after its backslash, and the source after it
abbrev pub escaped_member : Source → ℕ × Source
escaped_member [] = (no_member, [])
escaped_member (c ∷ t) = elim (escape_at true (c ∷ t)) [ None ↦ other_member c t | Some found ↦ found ]

-- the member that begins with c, and the source after it
abbrev pub next_member : ℕ → Source → ℕ × Source
next_member c t = if c == char "\\" then escaped_member t else (c, t)

-- the first n members: characters, and what stands for escapes that are none
abbrev pub members_by : ℕ → Source → List ℕ
members_by zero t = []
members_by (suc n) [] = []
members_by (suc n) (c ∷ t) = (next_member c t).0 ∷ members_by n (next_member c t).1

abbrev pub members : Source → List ℕ
members t = members_by (length t) t

abbrev pub to : ℕ → ℕ → Bounds
to first last = record { first = first; last = last }

-- the parts of a class: members, and ranges with a hyphen
abbrev pub parts : List ℕ → List Bounds
parts [] = []
parts (a ∷ []) = to a a ∷ []
parts (a ∷ b ∷ []) = to a a ∷ to b b ∷ []
parts (a ∷ b ∷ c ∷ t) = if b == char "-" then to a c ∷ parts t else to a a ∷ parts (b ∷ c ∷ t)

-- The first part of the class `first ∷ after` ends with `last`, and `others` is after it.
abbrev pub IsPartEnd : (first : ℕ) → (after : List ℕ) → (last : ℕ) → (others : List ℕ) → Type 0
IsPartEnd first after last others = parts (first ∷ after) ≡ to first last ∷ parts others

-- The part has the character. A range to what is no character has none.
abbrev pub has : ℕ → Bounds → Bool
has c part = nat_le part.first c && (nat_le c part.last && nat_le part.last code_point_max)

-- Two of the parts have the character.
abbrev pub have_twice : ℕ → List Bounds → Bool
have_twice c [] = false
have_twice c (part ∷ rest) = has c part && list_any (has c) rest || have_twice c rest

-- The test holds of a number less than n.
abbrev pub some_below : ℕ → (ℕ → Bool) → Bool
some_below zero test = false
some_below (suc n) test = some_below n test || test n

-- a class in brackets
abbrev pub is_class : Source → Span → Bool
is_class source span = is_at (char "[") (drop span.start source)

-- Two of the parts both have the same ASCII character.
abbrev pub repeats_some : List ℕ → Bool
repeats_some written = some_below 128 (λ c. have_twice c (parts written))

-- A part is a range from an upper-case to a lower-case letter.
abbrev pub writes_letter_range : List ℕ → Bool
writes_letter_range written = list_any is_letter_range (parts written)
