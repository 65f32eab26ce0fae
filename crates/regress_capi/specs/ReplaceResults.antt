-- The texts in which matches are replaced.
use Rattle.std.specs.Prelude.{ℕ, List}
use Rattle.regress.specs.Compiled.{groups_of, outcomes_of}
use Rattle.regress.specs.Replaced.{ReplacesAll, ReplacesFirst, ReplacesFirstN}
use Rattle.regress.specs.declared.pattern.Regex.{Regex}
use Rattle.regress_found.specs.declared.found.Match.{Match}
use Rattle.regress_replace.specs.Expansion.{expansion}

-- what the template expands to at a match
abbrev pub expanded : Regex → (text template : List ℕ) → Match → List ℕ
expanded regex text template m = expansion text m (groups_of regex) template

-- the text with its leftmost match replaced by what the template expands to, if it has one
abbrev pub HasFirstReplaced : Regex → (text template : List ℕ) → List ℕ → Type 0
HasFirstReplaced regex text template out = ReplacesFirst text (outcomes_of regex text) (expanded regex text template) out

-- the text with all its matches replaced by what the template expands to at each
abbrev pub HasAllReplaced : Regex → (text template : List ℕ) → List ℕ → Type 0
HasAllReplaced regex text template out = ReplacesAll text (outcomes_of regex text) (expanded regex text template) out

-- the text with its first matches replaced by it, at most as many as the limit, and how many there are
abbrev pub HasFirstsReplaced : Regex → (text template : List ℕ) → (limit count : ℕ) → List ℕ → Type 0
HasFirstsReplaced regex text template limit count out =
    ReplacesFirstN text (outcomes_of regex text) limit (expanded regex text template) out count
