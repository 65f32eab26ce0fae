-- The cost of searches by backtracking: the steps that following every outcome takes.
use Rattle.std.specs.Prelude.{ℕ, ◌+◌, ◌≤◌, List, length}
use Rattle.std.specs.Arc.{arc_value}
use Rattle.regress_program.specs.Cost.{Cost, IsCost}
use Rattle.regress_program.specs.Program.{Out}
use Rattle.regress_code.specs.Code.{code_routines, match_cost as code_match_cost, search_cost, setting_with}
use Rattle.regress_match.specs.declared.matcher.Matcher.{Matcher}

-- These are the costs of the program in the text, where `outs` are the outcomes of its instructions.
abbrev pub AreCosts : Matcher → (text : List ℕ) → (outs : ℕ → Out) → (costs : ℕ → Cost) → Type 0
AreCosts m text outs costs = IsCost (setting_with m.code (arc_value m.tables)) text (code_routines m.code) outs costs

-- The program has costs in the text.
pub record HasCosts (m : Matcher) (text : List ℕ) : Type 0 where
  pub outs : ℕ → Out
  pub costs : ℕ → Cost
  pub are : AreCosts m text outs costs

-- the cost of matching at a position
abbrev pub match_cost : Matcher → (text : List ℕ) → (costs : ℕ → Cost) → (position : ℕ) → ℕ
match_cost m = code_match_cost m.code (arc_value m.tables)

-- the cost of a search from there on
abbrev pub find_cost : Matcher → (text : List ℕ) → (costs : ℕ → Cost) → (from : ℕ) → ℕ
find_cost m = search_cost m.code (arc_value m.tables)

-- The steps are at most what matching at the position costs.
abbrev pub IsWithinMatchCost : Matcher → (text : List ℕ) → (position steps : ℕ) → Type 0
IsWithinMatchCost m text position steps =
    (outs : ℕ → Out) (costs : ℕ → Cost) → AreCosts m text outs costs → steps ≤ match_cost m text costs position

-- The steps are at most what a search costs, and one for each byte and once more: it may first look for a byte that each
-- match contains.
abbrev pub IsWithinFindCost : Matcher → (text : List ℕ) → (from steps : ℕ) → Type 0
IsWithinFindCost m text from steps =
    (outs : ℕ → Out) (costs : ℕ → Cost) → AreCosts m text outs costs → steps ≤ find_cost m text costs from + (length text + 1)
