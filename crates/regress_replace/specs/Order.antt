-- Matches from left to right.
use Rattle.std.specs.Prelude.{ℕ, ◌≤◌, List, [], ◌∷◌}
use Rattle.regress_found.specs.Found.{start_of}
use Rattle.regress_found.specs.declared.found.Match.{Match}
use Rattle.regress_replace.specs.Expansion.{end_of}

-- The first match starts at `from` or later, and each other one at the end of the one before it or later.
abbrev pub AreInOrder : (from : ℕ) → List Match → Type 0
AreInOrder from [] = Unit {0}
AreInOrder from (m ∷ ms) = from ≤ start_of m × AreInOrder (end_of m) ms
