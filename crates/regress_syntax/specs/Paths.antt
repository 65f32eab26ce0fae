-- The paths of capture groups, by the marks of a pattern, and which groups of one name conflict.
use Rattle.std.specs.Prelude.{ℕ, ◌+◌, Bool, true, false, not, ◌&&◌, ◌||◌, List, [], ◌∷◌, reverse, Option, ◌==◌, IsTrue}
use Rattle.std.specs.List.{list_all}
use Rattle.regress_syntax.specs.Syntax.{Name}
use Rattle.regress_syntax.specs.GroupTokens.{GroupToken, opens, captures, closes, next, nests}
use Rattle.regress_syntax.specs.SameNames.{same_name}

-- ---- the paths of groups

-- a disjunction that contains a position: that of the whole pattern, or that inside a pair of parentheses
pub record Level : Type 0 where
  -- the number of its opening parenthesis, from 1; 0 for the whole pattern
  pub opening : ℕ
  -- the index, from 0, of its alternative that contains the position
  pub alternative : ℕ

-- the disjunctions that contain a position, innermost first
abbrev pub Path : Type 0
Path = List Level

-- a position in a pattern, with the number of parentheses opened before it
pub record Position : Type 0 where
  pub path : Path
  pub opened : ℕ

-- the start of the pattern, in the first alternative of its disjunction
abbrev pub at_the_start : Position
at_the_start = record { path = record { opening = 0; alternative = 0 } ∷ []; opened = 0 }

-- the position after an opening parenthesis
abbrev pub enter : Position → Position
enter position = record { path = record { opening = position.opened + 1; alternative = 0 } ∷ position.path; opened = position.opened + 1 }

-- the path without its innermost disjunction; the whole pattern is never left
abbrev pub outside : Path → Path
outside [] = []
outside (level ∷ []) = level ∷ []
outside (level ∷ around ∷ path) = around ∷ path

-- the path in the next alternative of the innermost disjunction
abbrev pub next_alternative : Path → Path
next_alternative [] = []
next_alternative (level ∷ path) = record level { alternative = level.alternative + 1 } ∷ path

-- a capture group: the path of the position before its parenthesis, and its name
pub record CaptureAt : Type 0 where
  pub path : Path
  pub name : Option Name

-- the capture groups of the marks, in order, from a position on
abbrev pub groups_by : Position → List GroupToken → List CaptureAt
groups_by position [] = []
groups_by position (opens ∷ ms) = groups_by (enter position) ms
groups_by position (captures name ∷ ms) = record { path = position.path; name = name } ∷ groups_by (enter position) ms
groups_by position (closes ∷ ms) = groups_by (record position { path = outside position.path }) ms
groups_by position (next ∷ ms) = groups_by (record position { path = next_alternative position.path }) ms
groups_by position (nests nesting ∷ ms) = groups_by position ms

-- ---- groups of one name

-- Some disjunction has the two positions in different alternatives. The paths start with the outermost disjunction
-- here: a common prefix has the disjunctions that contain both positions, since different alternatives contain none in
-- common.
abbrev pub are_alternatives : Path → Path → Bool
are_alternatives [] other = false
are_alternatives (level ∷ path) [] = false
are_alternatives (level ∷ path) (beside ∷ other) =
    level.opening == beside.opening && (not (level.alternative == beside.alternative) || are_alternatives path other)

-- Two groups of one name conflict unless some disjunction has them in different alternatives (ECMA-262,
-- MightBothParticipate).
abbrev pub conflict : CaptureAt → CaptureAt → Bool
conflict a b = same_name a.name b.name && not (are_alternatives (reverse a.path) (reverse b.path))

-- no two of the groups conflict
abbrev pub are_apart : List CaptureAt → Bool
are_apart [] = true
are_apart (g ∷ gs) = list_all (λ other. not (conflict g other)) gs && are_apart gs

-- no two groups of the marks conflict
abbrev pub are_tokens_apart : List GroupToken → Bool
are_tokens_apart ms = are_apart (groups_by at_the_start ms)

-- No two groups of the marks conflict.
abbrev pub NoTokensConflict : List GroupToken → Type 0
NoTokensConflict ms = IsTrue (are_tokens_apart ms)
