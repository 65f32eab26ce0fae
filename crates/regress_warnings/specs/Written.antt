-- What is written and means something else in other engines: in a class, and as an escape.
use Rattle.std.specs.Prelude.{ℕ, ◌+◌, ◌-◌, Bool, false, not, ◌&&◌, ◌||◌, ◌==◌, nat_le, List, [], ◌∷◌, drop, if◌then◌else◌}
use Rattle.std.specs.List.{list_any}
use Rattle.regress_base.specs.Intervals.{Bounds}
use Rattle.regress_lexer.specs.Digits.{is_decimal, is_letter}
use Rattle.regress_lexer.specs.Source.{Source, char, bar, is_at, is_one_of}
use Rattle.regress_parse.specs.declared.span.Span.{Span}
use Rattle.regress_warnings.specs.Classes.{inside, no_member}

-- a letter or a digit
abbrev pub is_alphanumeric : ℕ → Bool
is_alphanumeric c = is_letter c || is_decimal c

-- After a letter or a digit there is a `|`, and after that a letter, a digit or an escape.
abbrev pub is_divided : ℕ → Source → Bool
is_divided a [] = false
is_divided a (b ∷ []) = false
is_divided a (b ∷ c ∷ t) = is_alphanumeric a && (b == bar && (is_alphanumeric c || c == char "\\"))

-- Somewhere it is so.
abbrev pub divides : Source → Bool
divides [] = false
divides (a ∷ t) = is_divided a t || divides t

-- Somewhere `[` and `:` follow one another.
abbrev pub has_name : Source → Bool
has_name [] = false
has_name (c ∷ t) = c == char "[" && is_at (char ":") t || has_name t

-- A part of the class is a range one of whose ends is no character.
abbrev pub has_class_in_range : List ℕ → Bool
has_class_in_range [] = false
has_class_in_range (a ∷ []) = false
has_class_in_range (a ∷ b ∷ []) = false
has_class_in_range (a ∷ b ∷ c ∷ t) =
    if b == char "-" then (a == no_member || c == no_member) || has_class_in_range t else has_class_in_range (b ∷ c ∷ t)

-- The interval has surrogates only.
abbrev pub is_of_surrogates : Bounds → Bool
is_of_surrogates b = nat_le 0xD800 b.first && nat_le b.last 0xDFFF

abbrev pub is_above : ℕ → Bool
is_above c = nat_le 0x10000 c

-- The source begins with an escape of a letter, other than one for a class or a control character.
abbrev pub escapes_letter : Source → Bool
escapes_letter [] = false
escapes_letter (a ∷ []) = false
escapes_letter (a ∷ b ∷ t) = a == char "\\" && (is_letter b && not (is_one_of "dDsSwWtnvfr" b))

-- The source of a node with this span is such an escape, of one letter.
abbrev pub is_identity_escape : Source → Span → Bool
is_identity_escape source span = span.end == span.start + 2 && escapes_letter (drop span.start source)
