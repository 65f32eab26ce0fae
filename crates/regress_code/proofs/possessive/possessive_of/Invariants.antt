-- The marks of the instructions so far.
use Rattle.std.proofs.Common.{◌≡◌, length}
use Rattle.regress_code.specs.Possessive.{ArePossessive}
use Rattle.regress_code.proofs.possessive.possessive_of.Given as goal

abbrev pub invariant-loop-pc : goal.invariant-loop-pc
invariant-loop-pc l = record {
  count : length l.possessive.items ≡ l.pc;
  are : ArePossessive l.possessive.items l.next_bytes l.leaves l.instructions;
}
