-- No bit is cleared, and the bit is set for the blocks so far.
use Rattle.std.proofs.Common.{◌≡◌, ℕ, ◌/◌, ◌<◌, ◌≤◌, true, false}
use Rattle.regress_unicode.specs.SourceIndex.{has_group}
use Rattle.regress_unicode.proofs.index.add_group.Given as goal

abbrev pub invariant-loop-block : goal.invariant-loop-block
invariant-loop-block l = record {
  kept : (target bit : ℕ) → has_group l.groups target bit ≡ false → has_group l.fn.groups target bit ≡ false;
  added : (target : ℕ) → l.first ≤ target / 64 → target / 64 < l.block → has_group l.groups target (l.fn.index / 4) ≡ true;
}
