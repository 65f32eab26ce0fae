-- What the result of a search is, which may be out of steps.
use Rattle.std.specs.Prelude.{◌≡◌, ℕ, List, [], ◌∷◌, Some, None}
use Rattle.regress_tree.specs.Steps.{MatchState}
use Rattle.regress_found.specs.Found.{Finds, start_of, state_of}
use Rattle.regress_found.specs.declared.found.Match.{Match}
use Rattle.regress_found.specs.declared.outcome.Outcome.{Outcome}
use Rattle.regress_found.specs.declared.outcome.Outcome.TheVariants.{Matched, NoMatch, OutOfSteps}

-- The result of a search: the leftmost match, or `NoMatch` if no character boundary has an outcome. Out of steps it
-- states nothing.
abbrev pub IsSearchResult : (text : List ℕ) → (at : ℕ → List MatchState) → (origin : ℕ) → Outcome → Type 0
IsSearchResult text at origin (Matched m) = Finds text at origin (Some m)
IsSearchResult text at origin NoMatch = Finds text at origin None
IsSearchResult text at origin OutOfSteps = Unit {0}

-- The result at a position: a match that starts there and is the first outcome, or `NoMatch` if there is none. Out of
-- steps it states nothing.
abbrev pub IsMatchResult : (position : ℕ) → List MatchState → Outcome → Type 0
IsMatchResult position states (Matched m) = (start_of m ≡ position) × ((rest : List MatchState) × (states ≡ state_of m ∷ rest))
IsMatchResult position states NoMatch = states ≡ []
IsMatchResult position states OutOfSteps = Unit {0}

-- If there is a match, P holds for it.
abbrev pub IfMatched : Outcome → (Match → Type 0) → Type 0
IfMatched (Matched m) P = P m
IfMatched NoMatch P = Unit {0}
IfMatched OutOfSteps P = Unit {0}

-- If the result is that the steps are used up, P holds.
abbrev pub IfOutOfSteps : Outcome → Type 0 → Type 0
IfOutOfSteps (Matched m) P = Unit {0}
IfOutOfSteps NoMatch P = Unit {0}
IfOutOfSteps OutOfSteps P = P
