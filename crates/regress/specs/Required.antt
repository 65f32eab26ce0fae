-- What each match of a regular expression contains.
use Rattle.std.specs.Prelude.{ℕ, List}
use Rattle.regress_prefilter.specs.Required.{AbsentFrom}
use Rattle.regress.specs.Compiled.{outcomes_of}
use Rattle.regress.specs.Searched.{MatchesSomewhere}
use Rattle.regress.specs.declared.pattern.Regex.{Regex}

-- A text in which the literal does not occur has no match.
abbrev pub RequiresLiteral : Regex → (literal : List ℕ) → Type 0
RequiresLiteral r literal = (text : List ℕ) → AbsentFrom literal text 0 → MatchesSomewhere text (outcomes_of r text) → ⊥
