-- The pieces so far and those of the rest of the text are together all pieces.
use Rattle.std.proofs.Common.{◌≡◌, ◌++◌, ℕ, List, drop, map}
use Rattle.std.specs.Borrow.{Bor}
use Rattle.regress_replace.specs.Replaced.{split_pieces}
use Rattle.regress_replace.proofs.lemmas.Order.{IsBefore}
use Rattle.regress_replace.proofs.split.split_at_matches.Given as goal

abbrev pub invariant-loop-found : goal.invariant-loop-found
invariant-loop-found l = record {
  so_far : map (λ (part : Bor (List ℕ)). part.now) l.parts.items ++ split_pieces l.text l.from (drop l.found-index l.matches)
      ≡ split_pieces l.text 0 l.matches;
  before : IsBefore l.text l.from (drop l.found-index l.matches);
}
