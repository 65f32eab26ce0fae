-- The list has the matches that the search has found, and its steps are at most what they cost.
use Rattle.std.proofs.Common.{◌≡◌, ◌≤◌, IfNone}
use Rattle.std.specs.Vec.{vec_capacity}
use Rattle.regress_match.specs.Iterated.{step_limit}
use Rattle.regress_match.specs.Matcher.{factor_in, limit_in}
use Rattle.regress_match.proofs.PaidLemmas.{HasPaid}
use Rattle.regress_match.proofs.lemmas.Iterated.{remaining}
use Rattle.regress_match.proofs.matcher.Matcher.find_all.Given as goal

abbrev pub invariant-loop-matches : goal.invariant-loop-matches
invariant-loop-matches l = record {
  has : HasPaid l.fn.self l.text l.matches l.all.items;
  room : vec_capacity l.all ≤ l.most;
  limit : IfNone (factor_in l.fn.self l.text) (step_limit l.matches ≡ limit_in l.fn.self l.fn.steps);
}

abbrev pub decreases-loop-matches : goal.decreases-loop-matches
decreases-loop-matches l = remaining l.matches
