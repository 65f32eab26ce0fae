-- The list has the matches that the iteration has found, and its steps are at most what they cost.
use Rattle.std.proofs.Common.{◌≤◌, map}
use Rattle.std.specs.Vec.{vec_capacity}
use Rattle.regress.specs.Costs.{factor_in}
use Rattle.regress.specs.Compiled.{groups_of, outcomes_of, match_of}
use Rattle.regress.proofs.FoundLemmas.{HasFoundWith}
use Rattle.regress.proofs.lemmas.Paid.{HasPaid}
use Rattle.regress.proofs.pattern.Regex.find_all.Given as goal

abbrev pub invariant-loop-found : goal.invariant-loop-found
invariant-loop-found l = record {
  has : HasFoundWith l.text (outcomes_of l.self l.text) (groups_of l.self) (factor_in l.self l.text) l.found-iterator l.all.items;
  paid : HasPaid l.self l.text 0 l.found-iterator (map match_of l.all.items);
  room : vec_capacity l.all ≤ l.most;
}
