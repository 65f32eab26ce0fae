-- Repeated searches with a matcher.
use Rattle.std.specs.Prelude.{◌≡◌, ℕ, ◌+◌, ◌-◌, ◌^◌, ◌≤◌, List, Some, min}
use Rattle.regress_code.specs.Code.{captures_cost}
use Rattle.regress_found.specs.Tried.{positions_tried}
use Rattle.regress_found.specs.declared.found.Match.{Match}
use Rattle.regress_tree.specs.Steps.{MatchState}
use Rattle.regress_match.specs.Pattern.{matcher_outcomes}
use Rattle.regress_match.specs.declared.matcher.Matcher.{Matcher}
use Rattle.regress_match.specs.declared.matcher_matches.MatcherMatches.{MatcherMatches}

-- the matcher
abbrev pub iterated_matcher : MatcherMatches → Matcher
iterated_matcher m = m.matcher.now

-- the text that is searched
abbrev pub iterated_text : MatcherMatches → List ℕ
iterated_text m = m.text.now

-- the byte offset from which the next match is searched
abbrev pub iterated_from : MatcherMatches → ℕ
iterated_from m = m.from

-- the outcomes among which matches are found
abbrev pub iterated_outcomes : MatcherMatches → (position : ℕ) → List MatchState
iterated_outcomes m = matcher_outcomes (iterated_matcher m) (iterated_text m)

-- the step limit of backtracking, and the number of remaining steps
abbrev pub step_limit : MatcherMatches → ℕ
step_limit m = m.limit

abbrev pub steps_remaining : MatcherMatches → ℕ
steps_remaining m = m.remaining

-- the matcher, the text and the step limit of a repeated search are unchanged
pub record IsSameIteration (old new : MatcherMatches) : Type 0 where
  pub matcher : iterated_matcher new ≡ iterated_matcher old
  pub text : iterated_text new ≡ iterated_text old
  pub limit : step_limit new ≡ step_limit old

-- the number of steps that were taken: of backtracking, of making the tables, and of searches in them
abbrev pub steps_taken : MatcherMatches → ℕ
steps_taken m = (m.limit - m.remaining) + m.searched

-- Steps are only spent.
pub record Spends (old new : MatcherMatches) : Type 0 where
  pub remaining : steps_remaining new ≤ steps_remaining old
  pub taken : steps_taken old ≤ steps_taken new

-- The search for a match has counted a step for each position up to it, and one for each 64 groups, or all that remained. It
-- counts up to 2^64 - 1.
abbrev pub HasCounted : (old new : MatcherMatches) → Match → Type 0
HasCounted old new m =
    min (steps_taken old + min (steps_remaining old) (captures_cost (iterated_matcher old).code + positions_tried (iterated_text old) (iterated_from old) (Some m))) (2 ^ 64 - 1)
    ≤ steps_taken new
