-- The skips of the instructions so far.
use Rattle.std.proofs.Common.{◌≡◌, length}
use Rattle.regress_code.specs.Skips.{AreSkips}
use Rattle.regress_code.proofs.skips.skips_of.Given as goal

abbrev pub invariant-loop-pc : goal.invariant-loop-pc
invariant-loop-pc l = record {
  count : length l.skips.items ≡ l.pc;
  are : AreSkips l.skips.items l.next_bytes l.instructions;
}
