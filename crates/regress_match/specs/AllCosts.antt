-- The cost of searches for all matches.
use Rattle.std.specs.Prelude.{ℕ, ◌+◌, ◌≤◌, List, [], ◌∷◌, length}
use Rattle.regress_program.specs.Cost.{Cost}
use Rattle.regress_program.specs.Program.{Out}
use Rattle.regress_found.specs.Repeated.{AreMatches, next_offset}
use Rattle.regress_found.specs.declared.found.Match.{Match}
use Rattle.regress_match.specs.Costs.{AreCosts, HasCosts, find_cost}
use Rattle.regress_match.specs.Pattern.{matcher_outcomes}
use Rattle.regress_match.specs.declared.matcher.Matcher.{Matcher}

module _ (m : Matcher) (text : List ℕ) (costs : ℕ → Cost) where
  -- the cost of a search from there on, and one for each byte of the text and once more
  abbrev pub next_cost : (from : ℕ) → ℕ
  next_cost from = find_cost m text costs from + (length text + 1)

  -- the cost of the searches that find these matches, the first one from `from` on and each other one from the end of the
  -- one before it
  abbrev pub matches_cost : (from : ℕ) → List Match → ℕ
  matches_cost from [] = 0
  matches_cost from (x ∷ xs) = next_cost from + matches_cost (next_offset x) xs

-- The searches for the first matches from `from` on, and for one more, cost at least that many steps.
pub record CostsOfMatches (m : Matcher) (text : List ℕ) (from steps : ℕ) : Type 0 where
  pub has : HasCosts m text
  pub ms : List Match
  pub to : ℕ
  pub found : AreMatches text (matcher_outcomes m text) from to ms
  pub cost : (outs : ℕ → Out) (costs : ℕ → Cost) → AreCosts m text outs costs →
      steps ≤ matches_cost m text costs from ms + next_cost m text costs to
