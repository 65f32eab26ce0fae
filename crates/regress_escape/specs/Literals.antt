-- The patterns of literals, and the matchers of strings.
use Rattle.std.specs.Prelude.{ℕ, ◌+◌, ◌-◌, Bool, ◌&&◌, nat_le, List, [], ◌∷◌, None, length, drop, if◌then◌else◌}
use Rattle.std.specs.List.{starts_with}
use Rattle.regress_base.specs.declared.types.Flags.{Flags}
use Rattle.regress_tree.specs.Reading.{Direction, forwards, backwards}
use Rattle.regress_tree.specs.Steps.{Matcher}
use Rattle.regress_syntax.specs.Syntax.{Pattern, Terms, one, no_terms, more_terms, atom, literal}

-- literals of these characters, in order, and then other terms
abbrev pub literals_then : Flags → List ℕ → Terms → Terms
literals_then flags [] ts = ts
literals_then flags (c ∷ cs) ts = more_terms (atom (literal flags c)) None (literals_then flags cs ts)

-- the pattern of the literals of these characters, in order
abbrev pub literals : Flags → List ℕ → Pattern
literals flags cs = one (literals_then flags cs no_terms)

-- Matches the string after the position or, backwards, before it, each character by the comparison `same`: there is one
-- outcome, on the other side of the string, if the text has the string there, and none otherwise.
abbrev pub this_string : Direction → (same : ℕ → ℕ → Bool) → (text string : List ℕ) → Matcher
this_string forwards same text string s =
    if starts_with same (drop s.position text) string then record s { position = s.position + length string } ∷ [] else []
this_string backwards same text string s =
    if nat_le (length string) s.position && starts_with same (drop (s.position - length string) text) string
    then record s { position = s.position - length string } ∷ []
    else []
