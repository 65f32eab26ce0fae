-- The positions that a search tries.
use Rattle.std.specs.Prelude.{ℕ, ◌+◌, ◌-◌, List, length, Option, Some, None}
use Rattle.regress_found.specs.Found.{start_of}
use Rattle.regress_found.specs.declared.found.Match.{Match}

-- The byte offsets that a search tries, at least: those from `origin` up to the start of the match, or up to the end of
-- the text.
abbrev pub positions_tried : (text : List ℕ) (origin : ℕ) → Option Match → ℕ
positions_tried text origin (Some m) = start_of m + 1 - origin
positions_tried text origin None = length text + 1 - origin
