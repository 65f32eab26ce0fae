-- Runs from many positions of a text.
use Rattle.std.specs.Prelude.{◌≡◌, ℕ, ◌≤◌, ◌<◌, List, [], length, MatchOption, Option}
use Rattle.std.specs.Str.{IsCharBoundary}
use Rattle.regress_tree.specs.Steps.{MatchState}
use Rattle.regress_tree.specs.Tree.{Tree}
use Rattle.regress_unicode.specs.declared.Tables.{Tables}
use Rattle.regress_found.specs.Found.{NoneBefore}
use Rattle.regress_found.specs.Results.{IsMatchResult}
use Rattle.regress_found.specs.declared.outcome.Outcome.TheVariants as outcomes
use Rattle.regress_program.specs.Cost.{Cost, IsCost}
use Rattle.regress_program.specs.Program.{IsSolution, Out}
use Rattle.regress_backtrack.specs.declared.backtracker.Backtracker.{Backtracker}
use Rattle.regress_backtrack.specs.declared.search.Attempt.{Attempt}
use Rattle.regress_backtrack.specs.declared.search.Attempt.TheVariants as attempts
use Rattle.regress_code.specs.declared.code.Code.{Code}
use Rattle.regress_code.specs.Code.{captures_cost, code_routines, cost_from, match_cost, outcomes_from, runs_cost, search_cost, setting_with, tree_outcomes_from}

-- the program that is run
abbrev pub run_code : Backtracker → Code
run_code b = b.input.code.now

-- the case mappings
abbrev pub run_tables : Backtracker → Tables
run_tables b = b.input.rules.known.tables.now

-- the text
abbrev pub run_text : Backtracker → List ℕ
run_text b = b.input.text.now

-- the number of entries for which each backtrack stack may have room
abbrev pub run_room : Backtracker → ℕ
run_room b = b.input.room

-- These are the outcomes of the instructions of the program in the text.
abbrev pub AreOutcomes : Backtracker → (ℕ → Out) → Type 0
AreOutcomes b outs = IsSolution (setting_with (run_code b) (run_tables b)) (run_text b) (code_routines (run_code b)) outs

-- the outcomes from a position with every group unset, by those of the instructions
abbrev pub outcomes_at : Backtracker → (ℕ → Out) → (position : ℕ) → List MatchState
outcomes_at b = outcomes_from (run_code b) (run_tables b) (run_text b)

-- the outcomes of a tree from there
abbrev pub tree_outcomes_at : Backtracker → Tree → (position : ℕ) → List MatchState
tree_outcomes_at b = tree_outcomes_from (run_code b) (run_tables b) (run_text b)

-- These are the costs of the instructions of the program in the text, where `outs` are their outcomes.
abbrev pub AreCosts : Backtracker → (ℕ → Out) → (ℕ → Cost) → Type 0
AreCosts b outs costs = IsCost (setting_with (run_code b) (run_tables b)) (run_text b) (code_routines (run_code b)) outs costs

-- the cost of a run from a position with every group unset, by those of the instructions
abbrev pub cost_at : Backtracker → (ℕ → Cost) → (position : ℕ) → ℕ
cost_at b = cost_from (run_code b) (run_tables b) (run_text b)

-- the cost of the runs from there on
abbrev pub runs_cost_at : Backtracker → (ℕ → Cost) → (from : ℕ) → ℕ
runs_cost_at b = runs_cost (run_code b) (run_tables b) (run_text b)

-- the cost of the captures of a match
abbrev pub captures_cost_of : Backtracker → ℕ
captures_cost_of b = captures_cost (run_code b)

-- the cost of matching at a position
abbrev pub match_cost_at : Backtracker → (ℕ → Cost) → (position : ℕ) → ℕ
match_cost_at b = match_cost (run_code b) (run_tables b) (run_text b)

-- the cost of a search from there on
abbrev pub search_cost_at : Backtracker → (ℕ → Cost) → (from : ℕ) → ℕ
search_cost_at b = search_cost (run_code b) (run_tables b) (run_text b)

-- The program has no outcome from the offset `from` on and before the position, or if there is none, to the end of the text.
abbrev pub Skipped : Backtracker → (from : ℕ) → Option ℕ → Type 0
Skipped b from result = (outs : ℕ → Out) → AreOutcomes b outs → (k : ℕ) → from ≤ k → k ≤ length (run_text b) →
    MatchOption result (Unit {0}) (λ position. k < position) → outcomes_at b outs k ≡ []

-- What an attempt at a position says of the outcomes.
abbrev pub IsAttempt : Backtracker → (position : ℕ) → Attempt → Type 0
IsAttempt b position (attempts.Matched m) = IsCharBoundary (run_text b) position
    × ((outs : ℕ → Out) → AreOutcomes b outs → IsMatchResult position (outcomes_at b outs position) (outcomes.Matched m))
IsAttempt b position attempts.Failed = (outs : ℕ → Out) → AreOutcomes b outs → outcomes_at b outs position ≡ []
IsAttempt b position (attempts.Passed to) = (position < to)
    × ((outs : ℕ → Out) → AreOutcomes b outs → NoneBefore (run_text b) (outcomes_at b outs) position to)
IsAttempt b position attempts.OutOfSteps = Unit {0}

-- The property holds if the search goes on after the attempt.
abbrev pub IfGoesOn : Attempt → Type 0 → Type 0
IfGoesOn (attempts.Matched m) P = Unit {0}
IfGoesOn attempts.Failed P = P
IfGoesOn (attempts.Passed to) P = P
IfGoesOn attempts.OutOfSteps P = Unit {0}
