-- The rows so far, and the strings of the one that has begun.
use Rattle.std.proofs.Common.{◌≤◌, ◌-◌, false, length}
use Rattle.regress_strings.specs.Contents.{contents}
use Rattle.regress_code.specs.Rows.{AreChoices, AreRows}
use Rattle.regress_code.proofs.rows.forward_rows.Given as goal

abbrev pub invariant-loop-pc : goal.invariant-loop-pc
invariant-loop-pc l = record {
  rows : AreRows l.folds l.rows.items l.leaves l.instructions false;
  few : length l.strings.items ≤ l.pc;
  begun : AreChoices l.folds l.leaves l.instructions (l.pc - length l.strings.items) (contents l.strings.items);
}
