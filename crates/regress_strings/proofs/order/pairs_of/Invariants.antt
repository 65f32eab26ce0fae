-- The pairs so far are those of the first indices.
use Rattle.std.proofs.Common.{◌≡◌, ℕ, ◌<◌, List, [], length}
use Rattle.std.specs.Borrow.{Bor}
use Rattle.std.specs.List.{slice_index_or}
use Rattle.regress_strings.specs.Contents.{contents}
use Rattle.regress_strings.proofs.order.pairs_of.Given as goal

abbrev pub invariant-loop-index : goal.invariant-loop-index
invariant-loop-index l = record {
  count : length l.pairs.items ≡ l.index;
  index : (k : ℕ) (pair : Bor (List ℕ) × ℕ) → k < length l.pairs.items → (slice_index_or l.pairs.items k pair).1 ≡ k;
  string : (k : ℕ) (pair : Bor (List ℕ) × ℕ) → k < length l.pairs.items → (slice_index_or l.pairs.items k pair).0.now ≡ slice_index_or (contents l.strings) k [];
}
