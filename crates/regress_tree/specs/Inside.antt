-- States and spans inside a text, on character boundaries.
use Rattle.std.specs.Prelude.{ℕ, ◌≤◌, List, All, Option, IfSome}
use Rattle.std.specs.Str.{IsCharBoundary}
use Rattle.regress_tree.specs.Steps.{CaptureSpan, MatchState}

-- The span starts no later than it ends, and both are on character boundaries, which are inside the text.
pub record IsSpanInside (text : List ℕ) (span : CaptureSpan) : Type 0 where
  pub ordered : span.0 ≤ span.1
  pub start : IsCharBoundary text span.0
  pub end : IsCharBoundary text span.1

-- The span of a group is inside the text, if the group is set.
abbrev pub IsCaptureInside : List ℕ → Option CaptureSpan → Type 0
IsCaptureInside text c = IfSome c (IsSpanInside text)

-- The position is on a character boundary, and the span of each group that is set is inside the text.
pub record IsStateInside (text : List ℕ) (s : MatchState) : Type 0 where
  pub position : IsCharBoundary text s.position
  pub captures : All (IsCaptureInside text) s.captures
