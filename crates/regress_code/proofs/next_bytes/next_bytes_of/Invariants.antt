-- The next bytes of the instructions so far.
use Rattle.std.proofs.Common.{◌≡◌, length}
use Rattle.regress_tree.specs.Reading.{direction_if}
use Rattle.regress_code.specs.NextBytes.{AreNextBytesOf}
use Rattle.regress_program.specs.Views.{ops_in}
use Rattle.regress_code.proofs.next_bytes.next_bytes_of.Given as goal

abbrev pub invariant-loop-instruction : goal.invariant-loop-instruction
invariant-loop-instruction l = record {
  count : length l.next_bytes.items ≡ l.instruction-index;
  are : AreNextBytesOf l.folds l.bodies l.next_bytes.items (direction_if l.backwards) (ops_in l.leaves l.instructions);
}
