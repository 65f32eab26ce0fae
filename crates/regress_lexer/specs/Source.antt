-- The source of a pattern, and parsing from its start.
use Rattle.std.specs.Prelude.{ℕ, ◌≤◌, Bool, true, false, not, ◌||◌, List, [], ◌∷◌, Option, Some, None, if◌then◌else◌, ◌==◌, codes, option_and_then}
use Prim.Native.Char.{Char, code}
use Prim.Native.String.{String}
use Rattle.std.specs.List.{list_any}
use Rattle.regress_base.specs.Intervals.{code_point_max}

-- the code points that remain to be parsed
abbrev pub Source : Type 0
Source = List ℕ

-- what is parsed, and the source after it; `None` if it is not there
abbrev pub Found : Type 0 → Type 0
Found A = Option (A × Source)

-- continues after what is found, if anything is
infixl 10 ◌>>=◌
abbrev pub ◌>>=◌ : {A B : Type 0} → Found A → (A × Source → Found B) → Found B
found >>= next = option_and_then next found

-- applies a function to what is found
abbrev pub found_map : {A B : Type 0} → (A → B) → Found A → Found B
found_map f found = found >>= λ (x, t). Some (f x, t)

-- a production of the grammar: whether it applies, and what it finds
abbrev pub Production : Type 0 → Type 0
Production A = Bool × Found A

abbrev pub when : {A : Type 0} → Bool → Found A → Production A
when applies found = (applies, found)

abbrev pub otherwise : {A : Type 0} → Found A → Production A
otherwise found = (true, found)

-- the first production that applies
abbrev pub first_production : {A : Type 0} → List (Production A) → Found A
first_production [] = None
first_production ((applies, found) ∷ productions) = if applies then found else first_production productions

-- an element of a pattern: any code point, surrogates included
abbrev pub IsCodePoint : ℕ → Type 0
IsCodePoint c = c ≤ code_point_max

-- the code point of a character, as in `char "a"`
abbrev pub char : Char → ℕ
char = code

-- the code point is one of these, as in `is_one_of "ab" c`
abbrev pub is_one_of : String → ℕ → Bool
is_one_of characters c = list_any (λ d. d == c) (codes characters)

-- the characters that the productions name most often
abbrev pub opening : ℕ
opening = char "("

abbrev pub closing : ℕ
closing = char ")"

abbrev pub full_stop : ℕ
full_stop = char "."

abbrev pub colon : ℕ
colon = char ":"

abbrev pub question_mark : ℕ
question_mark = char "?"

abbrev pub bar : ℕ
bar = char "|"

-- The source starts with this code point.
abbrev pub is_at : ℕ → Source → Bool
is_at c [] = false
is_at c (d ∷ rest) = d == c

-- The alternative ends here: at a `)`, a `|` or the end.
abbrev pub ends_alternative : Source → Bool
ends_alternative [] = true
ends_alternative (c ∷ rest) = c == closing || c == bar

-- the code points that are no literals by themselves (ECMA-262, SyntaxCharacter)
abbrev pub is_special : ℕ → Bool
is_special = is_one_of "*+?{]}()[|\\^$."

-- any other code point is a literal (ECMA-262, PatternCharacter)
abbrev pub is_plain : ℕ → Bool
is_plain c = not (is_special c)
