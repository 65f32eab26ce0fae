-- Repeated searches: all non-overlapping matches from left to right.
use Rattle.std.specs.Prelude.{◌≡◌, ℕ, ◌+◌, List, [], ◌∷◌, None, length, max}
use Rattle.regress_tree.specs.Steps.{MatchState}
use Rattle.regress_found.specs.Found.{Finds, IsLeftmost, start_of, state_of}
use Rattle.regress_found.specs.declared.found.Match.{Match}
use Rattle.regress_found.specs.declared.outcome.Outcome.{Outcome}
use Rattle.regress_found.specs.declared.outcome.Outcome.TheVariants as outcomes

-- The offset from which the next match is searched: the end of the last one, or one byte after its start if it is empty
-- (AdvanceStringIndex, for UTF-8).
abbrev pub next_offset : Match → ℕ
next_offset m = max (state_of m).position (start_of m + 1)

-- the offset after a result: after a match, past the text if there is none, and unchanged if out of steps
abbrev pub offset_after : List ℕ → ℕ → Outcome → ℕ
offset_after text from (outcomes.Matched m) = next_offset m
offset_after text from outcomes.NoMatch = length text + 1
offset_after text from outcomes.OutOfSteps = from

-- No match is left, and the search is past the text.
pub record EndsHere (text : List ℕ) (at : ℕ → List MatchState) (from to : ℕ) : Type 0 where
  pub none : Finds text at from None
  pub past : to ≡ length text + 1

-- The list has the matches that a repeated search finds in order, each the leftmost one, from the offset `from` until
-- the search is at `to`.
abbrev pub AreMatches : (text : List ℕ) → (at : ℕ → List MatchState) → (from to : ℕ) → List Match → Type 0
AreMatches text at from to [] = to ≡ from
AreMatches text at from to (m ∷ ms) = IsLeftmost text at from m × AreMatches text at (next_offset m) to ms

-- The list has all matches that a repeated search from an offset finds in order: after the last one there is none.
pub record AreAllMatchesFrom (text : List ℕ) (at : ℕ → List MatchState) (from : ℕ) (ms : List Match) : Type 0 where
  pub to : ℕ
  pub found : AreMatches text at from to ms
  pub none : Finds text at to None

-- the same from the start of the text
abbrev pub AreAllMatches : (text : List ℕ) → (at : ℕ → List MatchState) → List Match → Type 0
AreAllMatches text at ms = AreAllMatchesFrom text at 0 ms
