-- The indices so far are those of the first pairs.
use Rattle.std.proofs.Common.{◌≡◌, ℕ, ◌<◌, List, length}
use Rattle.std.specs.Borrow.{Bor}
use Rattle.std.specs.List.{slice_index, slice_index_or}
use Rattle.regress_strings.proofs.order.indices_of.Given as goal

abbrev pub invariant-loop-place : goal.invariant-loop-place
invariant-loop-place l = record {
  count : length l.indices.items ≡ l.place;
  index : (k : ℕ) (pair : Bor (List ℕ) × ℕ) → k < length l.indices.items → slice_index l.indices.items k ≡ (slice_index_or l.pairs.items k pair).1;
}
