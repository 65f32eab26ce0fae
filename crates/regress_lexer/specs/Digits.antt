-- Digits and letters at the start of a source.
use Rattle.std.specs.Prelude.{ℕ, ◌+◌, ◌-◌, ◌*◌, ◌%◌, Bool, ◌&&◌, ◌||◌, List, [], ◌∷◌, length, take, drop, Some, None, if◌then◌else◌, nat_le, ◌==◌}
use Rattle.std.specs.List.{list_all}
use Rattle.regress_lexer.specs.Source.{Source, Found, char}

-- The code point is in the closed range from `first` to `last`.
abbrev pub is_between : ℕ → ℕ → ℕ → Bool
is_between first last c = nat_le first c && nat_le c last

-- 0 to 9
abbrev pub is_decimal : ℕ → Bool
is_decimal = is_between (char "0") (char "9")

-- 0 to 7
abbrev pub is_octal : ℕ → Bool
is_octal = is_between (char "0") (char "7")

-- A to Z and a to z
abbrev pub is_letter : ℕ → Bool
is_letter c = is_between (char "A") (char "Z") c || is_between (char "a") (char "z") c

-- 0 to 9, A to F and a to f
abbrev pub is_hex : ℕ → Bool
is_hex c = is_decimal c || is_between (char "A") (char "F") c || is_between (char "a") (char "f") c

-- the value of a decimal or hexadecimal digit
abbrev pub digit : ℕ → ℕ
digit c = if is_decimal c then c - char "0" else if is_between (char "A") (char "F") c then c - (char "A" - 10) else c - (char "a" - 10)

-- the number that these digits denote in a base, after digits that denote n
abbrev pub number_from : ℕ → ℕ → List ℕ → ℕ
number_from base n [] = n
number_from base n (c ∷ cs) = number_from base (n * base + digit c) cs

-- the number that these digits denote in a base
abbrev pub number : ℕ → List ℕ → ℕ
number base = number_from base 0

-- the longest prefix of the source whose code points pass the test
unfoldable pub front : (ℕ → Bool) → Source → Source
front p [] = []
front p (c ∷ t) = if p c then c ∷ front p t else []

-- the source after that prefix
unfoldable pub after : (ℕ → Bool) → Source → Source
after p [] = []
after p (c ∷ t) = if p c then after p t else c ∷ t

-- exactly n hexadecimal digits
abbrev pub hex_at : ℕ → Source → Found ℕ
hex_at n t = if length (take n t) == n && list_all is_hex (take n t) then Some (number 16 (take n t), drop n t) else None

-- the value of a control letter: its code modulo 32 (ECMA-262, CharacterValue)
abbrev pub control : ℕ → ℕ
control c = c % 32
