-- Setting the remaining numbers completes the whole.
use Rattle.std.proofs.Common.{◌≡◌, ◌≤◌, ◌<◌, ◌+◌, length, reverse, vec_len}
use Rattle.std.specs.Prelude.{All}
use Rattle.regress_encoding.specs.Closed.{closed}
use Rattle.regress_encoding.proofs.order.close.Given as goal

abbrev pub invariant-loop-index : goal.invariant-loop-index
invariant-loop-index l = record {
  completes : closed l.numbers.items (reverse l.indices.items) l.next ≡ closed l.fn.numbers.items (reverse l.fn.indices.items) l.fn.next;
  count : l.next + length l.indices.items ≡ l.fn.next + length l.fn.indices.items;
  within : All (λ i. i < length l.numbers.items) l.indices.items;
  few : l.next + length l.indices.items ≤ length l.numbers.items;
}

abbrev pub decreases-loop-index : goal.decreases-loop-index
decreases-loop-index l = vec_len l.indices
