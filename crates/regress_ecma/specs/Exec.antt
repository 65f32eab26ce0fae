-- ECMA-262, 22.2.7.2 RegExpBuiltinExec: the search for a match from an index on. Numbers in comments are those of its
-- steps.
use Rattle.std.specs.Prelude.{ℕ, zero, suc, ◌+◌, ◌-◌, List, length, Option, Some, None}
use Rattle.regress_tree.specs.Reading.{byte_position}
use Rattle.regress_tree.specs.Steps.{Setting}
use Rattle.regress_tree.specs.Steps as Steps
use Rattle.regress_syntax.specs.Syntax.{Pattern}
use Rattle.regress_ecma.specs.Notation.{MatchState, MatchResult}
use Rattle.regress_ecma.specs.Compile.{compile_pattern}

-- the index at which a match begins, and its state
abbrev pub Found : Type 0
Found = ℕ × MatchState

-- the matcher of the pattern at an index, with enough fuel for the input
abbrev pub match_at : Setting → Pattern → (input : List ℕ) → (index : ℕ) → MatchResult
match_at setting p input index = compile_pattern (length input + 1) setting.table setting.flags p input index

-- the match at an index, 13.e, or else what is found later, 13.d
abbrev pub or_later : (index : ℕ) → MatchResult → Option Found → Option Found
or_later index None later = later
or_later index (Some x) later = Some (index, x)

-- the first match at one of the n indices from `index` on: 13
unfoldable pub first_match : (at : ℕ → MatchResult) → (n index : ℕ) → Option Found
first_match at zero index = None
first_match at (suc n) index = or_later index (at index) (first_match at n (index + 1))

-- RegExpBuiltinExec: each index from last_index to the end of the input is tried, and after it the search fails.
abbrev pub builtin_exec : Setting → Pattern → (input : List ℕ) → (last_index : ℕ) → Option Found
builtin_exec setting p input last_index = first_match (match_at setting p input) (length input + 1 - last_index) last_index

-- ---- byte offsets of UTF-8 in place of indices

-- a state in byte offsets
abbrev pub in_bytes : MatchState → Steps.MatchState
in_bytes x = Steps.byte_state x.input (record { position = x.end_index; captures = x.captures })

-- a match in byte offsets
abbrev pub found_in_bytes : Found → ℕ × Steps.MatchState
found_in_bytes found = (byte_position found.1.input found.0, in_bytes found.1)
