-- The list has the matches that the iteration has found, at most as many as wanted, and its steps are at most what they
-- cost.
use Rattle.std.proofs.Common.{◌-◌, ◌≤◌, length}
use Rattle.std.specs.Vec.{vec_capacity}
use Rattle.regress.specs.Compiled.{outcomes_of}
use Rattle.regress.proofs.FoundLemmas.{HasFound}
use Rattle.regress.proofs.lemmas.Paid.{HasPaid}
use Rattle.regress.proofs.pattern.Regex.first_matches.Given as goal

abbrev pub invariant-loop-matches : goal.invariant-loop-matches
invariant-loop-matches l = record {
  found : HasFound l.text (outcomes_of l.self l.text) l.matches l.first.items;
  paid : HasPaid l.self l.text 0 l.matches l.first.items;
  few : length l.first.items ≤ l.count;
  room : vec_capacity l.first ≤ l.most;
}

abbrev pub decreases-loop-matches : goal.decreases-loop-matches
decreases-loop-matches l = l.count - length l.first.items
