-- The costs of searches with a compiled regular expression.
use Rattle.std.specs.Prelude.{◌≡◌, ℕ, List, Option, None}
use Rattle.regress_match.specs.AllCosts.{CostsOfMatches}
use Rattle.regress_match.specs.Costs.{HasCosts, IsWithinFindCost}
use Rattle.regress_match.specs.Matcher as matcher
use Rattle.regress_match.specs.declared.matcher.Matcher.{Matcher}
use Rattle.regress_match.specs.declared.nonlinear.Nonlinear.{Nonlinear}
use Rattle.regress.specs.declared.pattern.Regex.{Regex}

-- the program of the pattern
abbrev pub matcher_of : Regex → Matcher
matcher_of r = r.matcher

-- an upper bound for the steps of a search for all matches for each byte of a text, and once more; none if such searches
-- are not known to take linear time
abbrev pub factor_of : Regex → Option ℕ
factor_of r = matcher.factor_of r.matcher

-- the same for a search for one match
abbrev pub find_factor_of : Regex → Option ℕ
find_factor_of r = matcher.find_factor_of r.matcher

-- the step limit of a search if they are not known to
abbrev pub limit_of : Regex → ℕ
limit_of r = r.steps

-- the number of steps that a search may take that takes linear time; none if there is no limit
abbrev pub linear_steps_of : Regex → Option ℕ
linear_steps_of r = matcher.linear_steps_of r.matcher

-- the bound for the steps of a search for all matches in a text, for each byte; none if it only backtracks there
abbrev pub factor_in : Regex → (text : List ℕ) → Option ℕ
factor_in r = matcher.factor_in r.matcher

-- the same for a search for one match
abbrev pub find_factor_in : Regex → (text : List ℕ) → Option ℕ
find_factor_in r = matcher.find_factor_in r.matcher

-- the step limit of a search for all matches that only backtracks
abbrev pub step_limit_of : Regex → ℕ
step_limit_of r = matcher.limit_in r.matcher (limit_of r)

-- that of a search for one match
abbrev pub find_step_limit_of : Regex → ℕ
find_step_limit_of r = matcher.find_limit_in r.matcher (limit_of r)

-- A search from there on costs at least the step limit.
pub record CostsLimit (r : Regex) (text : List ℕ) (from : ℕ) : Type 0 where
  pub has : HasCosts r.matcher text
  pub within : IsWithinFindCost r.matcher text from (find_step_limit_of r)

-- The searches for all matches from there on, up to one of them, cost at least the step limit.
abbrev pub AllCostLimit : Regex → (text : List ℕ) → (from : ℕ) → Type 0
AllCostLimit r text from = CostsOfMatches r.matcher text from (step_limit_of r)

-- A search for one match may be out of steps: it only backtracks, and costs at least the step limit.
pub record IsTooCostly (r : Regex) (text : List ℕ) (from : ℕ) : Type 0 where
  pub linear : factor_in r text ≡ None
  pub bounded : find_factor_in r text ≡ None
  pub costs : CostsLimit r text from

-- The same of a search for all matches.
pub record AllAreTooCostly (r : Regex) (text : List ℕ) (from : ℕ) : Type 0 where
  pub linear : factor_in r text ≡ None
  pub costs : AllCostLimit r text from

-- why searches for all matches are not known to take linear time; none if they do
abbrev pub nonlinear_of : Regex → Option Nonlinear
nonlinear_of r = matcher.nonlinear_of r.matcher
