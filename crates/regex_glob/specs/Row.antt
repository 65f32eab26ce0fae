-- For each end of a text, the longest first, whether it is matched.
use Rattle.std.specs.Prelude.{ℕ, zero, suc, Bool, true, false, ◌&&◌, ◌||◌, ◌==◌, List, [], ◌∷◌, drop}
use Rattle.regex_glob.specs.Glob.{Characters, Piece, anything, has, one}

-- f of each end
abbrev pub ends : (f : List ℕ → Bool) → List ℕ → List Bool
ends f [] = f [] ∷ []
ends f (c ∷ cs) = f (c ∷ cs) ∷ ends f cs

-- only the empty end of a text of this length
abbrev pub first_row : (length : ℕ) → List Bool
first_row zero = true ∷ []
first_row (suc n) = false ∷ first_row n

abbrev pub head : List Bool → Bool
head [] = false
head (b ∷ bs) = b

-- whether one of the values from each on holds
abbrev pub ors : List Bool → List Bool
ors [] = []
ors (b ∷ bs) = (head (ors bs) || b) ∷ ors bs

-- whether each end begins with one of the characters, and the next value holds
abbrev pub steps : Characters → (text : List ℕ) → (row : List Bool) → List Bool
steps set [] row = false ∷ []
steps set (c ∷ cs) row = (has set c && head (drop 1 row)) ∷ steps set cs (drop 1 row)

-- the row of one more piece
abbrev pub with_piece : Piece → (text : List ℕ) → (row : List Bool) → List Bool
with_piece anything text row = ors row
with_piece (one set) text row = steps set text row

-- whether the value after a slash holds
abbrev pub in_slashes : (text : List ℕ) → (row : List Bool) → Bool
in_slashes [] row = false
in_slashes (c ∷ cs) row = (c == 47 && head (drop 1 row)) || in_slashes cs (drop 1 row)
