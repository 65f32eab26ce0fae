-- The spans of matches, as numbers.
use Rattle.std.specs.Prelude.{◌≡◌, ℕ, ◌-◌, ◌^◌, List, [], ◌∷◌, flat_map, Option, None, Some}
use Rattle.regress_front.specs.Steps.{CaptureSpan, MatchState}
use Rattle.regress.specs.Groups.{all_spans}
use Rattle.regress_found.specs.Repeated.{AreAllMatchesFrom}
use Rattle.regress_found.specs.Found.{Finds}
use Rattle.regress_found.specs.declared.found.Match.{Match}

-- the number in place of a position in the span of an unset group
abbrev pub unset : ℕ
unset = 2 ^ 64 - 1

-- the start and the end of a span
abbrev pub ends_of : Option CaptureSpan → List ℕ
ends_of None = unset ∷ unset ∷ []
ends_of (Some span) = span.0 ∷ span.1 ∷ []

-- the start and the end of a match, and then those of each group
abbrev pub match_ends : Match → List ℕ
match_ends m = flat_map ends_of (all_spans m)

-- the numbers of the leftmost match from an offset on
abbrev pub AreEndsOfFirst : (text : List ℕ) → (at : ℕ → List MatchState) → (from : ℕ) → List ℕ → Type 0
AreEndsOfFirst text at from numbers = (m : Match) × Finds text at from (Some m) × (numbers ≡ match_ends m)

-- the numbers of all these matches, one match after the other
abbrev pub AreEndsOfAll : (text : List ℕ) → (at : ℕ → List MatchState) → (from : ℕ) → List ℕ → Type 0
AreEndsOfAll text at from numbers = (ms : List Match) × AreAllMatchesFrom text at from ms × (numbers ≡ flat_map match_ends ms)
