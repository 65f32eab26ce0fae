-- What a glob is, and which texts it matches, as `fnmatch` of POSIX without flags defines it. Named classes, as `[:alpha:]`,
-- have no meaning of their own.
use Rattle.std.specs.Prelude.{ℕ, zero, suc, ◌+◌, Bool, true, false, not, ◌&&◌, ◌||◌, ◌==◌, List, [], ◌∷◌, drop, if◌then◌else◌, length, map, nat_le, nat_lt, slice_range}
use Rattle.std.specs.List.{list_any}
use Rattle.regex_glob.specs.declared.glob.Glob as code_glob
use Rattle.regex_glob.specs.declared.piece.Characters as code
use Rattle.regex_glob.specs.declared.piece.Piece as code_piece
use Rattle.regex_glob.specs.declared.piece.Piece.TheVariants.{Anything, One}
use Rattle.regex_glob.specs.declared.token.Token.{Token}

-- the characters in one of these ranges, whose ends are included, or with `inverted` all others
pub record Characters : Type 0 where
  pub inverted : Bool
  pub ranges : List (ℕ × ℕ)

-- any characters, also none, or one of these
pub data Piece : Type 0 where
  anything : Piece
  one : Characters → Piece

-- the same as the code represents it
abbrev pub characters : code.Characters → Characters
characters c = record { inverted = c.inverted; ranges = c.ranges.items }

abbrev pub piece_of : code_piece.Piece → Piece
piece_of Anything = anything
piece_of (One c) = one (characters c)

abbrev pub pieces : code_glob.Glob → List Piece
pieces glob = map piece_of glob.pieces.items

-- ---- the text of a glob

-- The characters, and whether they are quoted: a backslash quotes the next one, and at the end itself. `quoted` states
-- whether one is in front.
abbrev pub tokens_of : (quoted : Bool) → List ℕ → List Token
tokens_of quoted [] = if quoted then record { c = 92; quoted = true } ∷ [] else []
tokens_of quoted (c ∷ cs) =
    if not quoted && c == 92 then tokens_of true cs
    else record { c = c; quoted = quoted } ∷ tokens_of false cs

-- this character, not quoted
abbrev pub is_mark : (mark : ℕ) → Token → Bool
is_mark mark t = not t.quoted && t.c == mark

-- the number of tokens in front of the first `]`
abbrev pub closing : List Token → ℕ
closing [] = 0
closing (t ∷ ts) = if is_mark 93 t then 0 else suc (closing ts)

-- `!` or `^` after `[` inverts a class.
abbrev pub inverts : List Token → Bool
inverts [] = false
inverts (t ∷ ts) = is_mark 33 t || is_mark 94 t

-- where the members of a class begin in the tokens after `[`
abbrev pub class_start : List Token → ℕ
class_start ts = if inverts ts then 1 else 0

-- where its `]` is, which is not its first member, or where all tokens end
abbrev pub class_end : List Token → ℕ
class_end ts = class_start ts + (1 + closing (drop (class_start ts + 1) ts))

-- whether the tokens from the first one on are a class
abbrev pub is_class : Token → List Token → Bool
is_class t ts = is_mark 91 t && nat_lt (class_end ts) (length ts)

-- the ranges of the members of a class: `a-z` is one, and each other character by itself
abbrev pub ranges_of : List Token → List (ℕ × ℕ)
ranges_of [] = []
ranges_of (a ∷ []) = (a.c, a.c) ∷ []
ranges_of (a ∷ (b ∷ [])) = (a.c, a.c) ∷ (b.c, b.c) ∷ []
ranges_of (a ∷ (b ∷ (c ∷ ts))) =
    if is_mark 45 b then (a.c, c.c) ∷ ranges_of ts
    else (a.c, a.c) ∷ ranges_of (b ∷ (c ∷ ts))

-- the characters of the class of these tokens after `[`
abbrev pub class_of : List Token → Characters
class_of ts = record { inverted = inverts ts; ranges = ranges_of (slice_range ts (class_start ts) (class_end ts)) }

abbrev pub literal : (c : ℕ) → Characters
literal c = record { inverted = false; ranges = (c, c) ∷ [] }

-- the piece that begins with a token: `*`, `?`, a class, or a character
abbrev pub piece_at : Token → List Token → Piece
piece_at t ts =
    if is_mark 42 t then anything
    else if is_mark 63 t then one (record { inverted = true; ranges = [] })
    else if is_class t ts then one (class_of ts)
    else one (literal t.c)

-- how many tokens it has after that one
abbrev pub more_at : Token → List Token → ℕ
more_at t ts = if is_class t ts then class_end ts + 1 else 0

-- the pieces of the tokens after the first ones, of which this many belong to the piece before
abbrev pub pieces_after : ℕ → List Token → List Piece
pieces_after n [] = []
pieces_after zero (t ∷ ts) = piece_at t ts ∷ pieces_after (more_at t ts) ts
pieces_after (suc n) (t ∷ ts) = pieces_after n ts

-- the pieces of a glob
abbrev pub pieces_of : (glob : List ℕ) → List Piece
pieces_of glob = pieces_after 0 (tokens_of false glob)

-- ---- what a glob matches

abbrev pub in_range : (c : ℕ) → ℕ × ℕ → Bool
in_range c range = nat_le range.0 c && nat_le c range.1

abbrev pub has : Characters → (c : ℕ) → Bool
has cs c = if cs.inverted then not (list_any (in_range c) cs.ranges) else list_any (in_range c) cs.ranges

-- f holds of an end of the text
abbrev pub any_end : (f : List ℕ → Bool) → List ℕ → Bool
any_end f [] = f []
any_end f (c ∷ cs) = any_end f cs || f (c ∷ cs)

-- The text begins with one of the characters, and f holds of the rest.
abbrev pub after_one : Characters → (f : List ℕ → Bool) → List ℕ → Bool
after_one set f [] = false
after_one set f (c ∷ cs) = has set c && f cs

-- The pieces match the whole text.
abbrev pub matches : List Piece → (text : List ℕ) → Bool
matches [] [] = true
matches [] (c ∷ cs) = false
matches (anything ∷ ps) text = any_end (matches ps) text
matches (one set ∷ ps) text = after_one set (matches ps) text

-- f holds of the text after a slash
abbrev pub after_slash : (f : List ℕ → Bool) → List ℕ → Bool
after_slash f [] = false
after_slash f (c ∷ cs) = (c == 47 && f cs) || after_slash f cs

-- The pieces match the name, or what is after a slash in it.
abbrev pub matches_name : List Piece → (name : List ℕ) → Bool
matches_name ps name = matches ps name || after_slash (matches ps) name
