-- The cost of searches for all matches.
use Rattle.std.proofs.Common.{◌≡◌, ℕ, ◌+◌, List, [], ◌∷◌, ◌++◌, ap, arith}
use Rattle.regress_tree.specs.Steps.{MatchState}
use Rattle.regress_found.specs.Repeated.{AreMatches, next_offset}
use Rattle.regress_found.specs.declared.found.Match.{Match}
use Rattle.regress_program.specs.Cost.{Cost}
use Rattle.regress_match.specs.AllCosts.{matches_cost, next_cost}
use Rattle.regress_match.specs.declared.matcher.Matcher.{Matcher}

-- one more match
pub matches_cost-more : (m : Matcher) (text : List ℕ) (costs : ℕ → Cost) (at : ℕ → List MatchState) (from to : ℕ) (xs : List Match) (x : Match) →
    AreMatches text at from to xs →
    matches_cost m text costs from (xs ++ x ∷ []) ≡ matches_cost m text costs from xs + next_cost m text costs to
matches_cost-more m text costs at from to [] x found =
    let same = ap (next_cost m text costs) found in omega (arith, same)
matches_cost-more m text costs at from to (y ∷ ys) x found =
    let rest = matches_cost-more m text costs at (next_offset y) to ys x found.1 in
    omega (arith, rest)
