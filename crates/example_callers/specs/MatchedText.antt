-- The text of a match.
use Rattle.std.specs.Prelude.{◌≡◌, ℕ, List, slice_range}
use Rattle.regress_front.specs.Steps.{MatchState}
use Rattle.regress_found.specs.Found.{IsLeftmost, start_of, state_of}
use Rattle.regress_found.specs.declared.found.Match.{Match}

-- The part is the slice of the text from the start to the end of the leftmost match. `at` has the outcomes of the
-- pattern from each position.
pub record IsMatchedText (text : List ℕ) (at : ℕ → List MatchState) (part : List ℕ) : Type 0 where
  pub found : Match
  pub leftmost : IsLeftmost text at 0 found
  pub slice : part ≡ slice_range text (start_of found) (state_of found).position
