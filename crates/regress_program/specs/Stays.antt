-- Matching that stays inside the text and is never against its direction.
use Rattle.std.specs.Prelude.{ℕ, ◌≤◌, List, All, length}
use Rattle.regress_tree.specs.Reading.{Direction, forwards, backwards}
use Rattle.regress_tree.specs.Steps.{MatchState, Matcher}

-- The position `to` is not against the direction from `from`.
abbrev pub IsOnward : Direction → (from to : ℕ) → Type 0
IsOnward forwards from to = from ≤ to
IsOnward backwards from to = to ≤ from

-- The state t is inside the text, and not against the direction from s.
pub record IsReached (bytes : List ℕ) (d : Direction) (s t : MatchState) : Type 0 where
  pub inside : t.position ≤ length bytes
  pub onward : IsOnward d s.position t.position

-- From inside the text each outcome is inside it, and not against the direction.
pub record Stays (bytes : List ℕ) (d : Direction) (f : Matcher) : Type 0 where
  pub reached : (s : MatchState) → s.position ≤ length bytes → All (IsReached bytes d s) (f s)
