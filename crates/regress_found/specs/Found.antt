-- What a match is, and what a search finds.
use Rattle.std.specs.Prelude.{◌≡◌, ℕ, ◌≤◌, ◌<◌, List, [], ◌∷◌, All, Option, Some, None, length, replicate}
use Rattle.std.specs.Str.{IsCharBoundary}
use Rattle.regress_tree.specs.Inside.{IsCaptureInside, IsSpanInside}
use Rattle.regress_tree.specs.Matching.{matches}
use Rattle.regress_tree.specs.Reading.{forwards}
use Rattle.regress_tree.specs.Steps.{CaptureSpan, MatchState, Setting}
use Rattle.regress_tree.specs.Tree.{Tree}
use Rattle.regress_tree.specs.WellFormed.{captures}
pub use Rattle.regress_found.specs.declared.found.Match.{Match}

-- the state at a position with these captures
abbrev pub state : List (Option CaptureSpan) → (position : ℕ) → MatchState
state captures position = record { position = position; captures = captures }

-- the state at a position with n groups, all unset
abbrev pub initial_state : (n position : ℕ) → MatchState
initial_state n position = record { position = position; captures = replicate n None }

-- the outcomes of a tree from a position with every group unset, as RegExpBuiltinExec starts a match
abbrev pub outcomes_at : Setting → (text : List ℕ) → Tree → (position : ℕ) → List MatchState
outcomes_at setting text t position = matches setting text forwards t (initial_state (length (captures t)) position)

-- the byte offset at which a match starts
abbrev pub start_of : Match → ℕ
start_of m = m.start

-- the state (MatchState) that a match reports
abbrev pub state_of : Match → MatchState
state_of m = record { position = m.end; captures = m.groups.items }

-- The span of the match, and that of each group that is set, is inside the text: it starts no later than it ends, and
-- both are on character boundaries.
pub record IsInside (text : List ℕ) (m : Match) : Type 0 where
  pub span : IsSpanInside text (start_of m, (state_of m).position)
  pub groups : All (IsCaptureInside text) (state_of m).captures

module _ (text : List ℕ) (at : ℕ → List MatchState) (origin : ℕ) where
  -- No character boundary in the half-open range from `origin` to `to` has an outcome.
  abbrev pub NoneBefore : ℕ → Type 0
  NoneBefore to = (p : ℕ) → origin ≤ p → p < to → IsCharBoundary text p → at p ≡ []

  -- The match is the first outcome from the least character boundary, from `origin` on, that has one.
  pub record IsLeftmost (m : Match) : Type 0 where
    pub from : origin ≤ start_of m
    pub boundary : IsCharBoundary text (start_of m)
    pub first : (rest : List MatchState) × (at (start_of m) ≡ state_of m ∷ rest)
    pub least : NoneBefore (start_of m)

  -- the result of a search: the leftmost match, or none if no character boundary has an outcome
  abbrev pub Finds : Option Match → Type 0
  Finds (Some m) = IsLeftmost m
  Finds None = (p : ℕ) → origin ≤ p → IsCharBoundary text p → at p ≡ []
