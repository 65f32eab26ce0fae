-- The counts so far.
use Rattle.std.proofs.Common.{◌≡◌, ◌≤◌, ◌<◌, ◌+◌, ℕ, Some, false, get_or, length, slice_get}
use Rattle.regress_base.specs.ByteBitmap.{contains}
use Rattle.regress_code.proofs.skips.counts_of.Given as goal

abbrev pub invariant-loop-b : goal.invariant-loop-b
invariant-loop-b l = record {
  count : length l.counts.items ≡ l.b;
  are : (i n : ℕ) → slice_get l.counts.items i ≡ Some n → 0 < n → (contains l.set i ≡ false) × (n ≤ get_or l.before i 0 + 1);
}
