-- The code points that a bracket accepts (ECMA-262, CharacterClass).
use Rattle.std.specs.Prelude.{ℕ, Bool, not, List, if◌then◌else◌}
use Rattle.regress_base.specs.Intervals.{Bounds, is_member}
use Rattle.regress_base.specs.declared.types.bracket.BracketContents.{BracketContents}

-- exactly one of `invert` and membership holds
abbrev pub is_accepted : (invert : Bool) → List Bounds → ℕ → Bool
is_accepted invert intervals c = if invert then not (is_member intervals c) else is_member intervals c

-- the bracket accepts the code point
abbrev pub accepts : BracketContents → ℕ → Bool
accepts contents = is_accepted contents.invert contents.cps
