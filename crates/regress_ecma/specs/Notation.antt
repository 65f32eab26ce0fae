-- ECMA-262, 22.2.2.1 Notation. A text is a list of code points, with all flags.
use Rattle.std.specs.Prelude.{ℕ, List, Option, None}
use Rattle.regress_base.specs.Intervals.{Bounds}

-- 22.2.2.1 CharSet: a set of characters, as intervals
abbrev pub CharSet : Type 0
CharSet = List Bounds

-- 22.2.2.1 CaptureRange: its start index, and its end index
abbrev pub CaptureRange : Type 0
CaptureRange = ℕ × ℕ

-- 22.2.2.1 MatchState. Captures are numbered from 1; `None` is undefined.
pub record MatchState : Type 0 where
  pub input : List ℕ
  pub end_index : ℕ
  pub captures : List (Option CaptureRange)

-- 22.2.2.1 MatchResult: a state, or failure
abbrev pub MatchResult : Type 0
MatchResult = Option MatchState

abbrev pub failure : MatchResult
failure = None

-- 22.2.2.1 MatcherContinuation
abbrev pub Continuation : Type 0
Continuation = MatchState → MatchResult

-- 22.2.2.1 Matcher
abbrev pub Matcher : Type 0
Matcher = MatchState → Continuation → MatchResult
