-- A text with its matches replaced, and the parts of a text between its matches.
use Rattle.std.specs.Prelude.{ℕ, List, [], ◌∷◌, ◌++◌, drop, slice_range}
use Rattle.regress_found.specs.Found.{start_of}
use Rattle.regress_found.specs.declared.found.Match.{Match}
use Rattle.regress_replace.specs.Expansion.{end_of}

-- the text `t` from the byte offset `from` on, in which the span of each match is replaced
abbrev pub replaced : (t : List ℕ) → (replacement : Match → List ℕ) → (from : ℕ) → List Match → List ℕ
replaced t replacement from [] = drop from t
replaced t replacement from (m ∷ ms) = slice_range t from (start_of m) ++ (replacement m ++ replaced t replacement (end_of m) ms)

-- the parts of the text `t` from the byte offset `from` on, before, between and after the matches
abbrev pub split_pieces : (t : List ℕ) → (from : ℕ) → List Match → List (List ℕ)
split_pieces t from [] = drop from t ∷ []
split_pieces t from (m ∷ ms) = slice_range t from (start_of m) ∷ split_pieces t (end_of m) ms

-- the pieces in order, with a separator after each but the last
abbrev pub joined : (pieces separators : List (List ℕ)) → List ℕ
joined [] separators = []
joined (p ∷ ps) [] = p ++ joined ps []
joined (p ∷ ps) (s ∷ ss) = p ++ (s ++ joined ps ss)
