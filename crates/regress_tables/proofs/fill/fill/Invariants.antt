use Rattle.std.proofs.Common.{◌≡◌, ◌*◌, ◌<◌, ◌≤◌, IfSome, length}
use Rattle.regress_program.specs.Views.{routine_in}
use Rattle.regress_leaves.specs.Subject.{subject}
use Rattle.regress_tables.specs.Memo.{IsKnown}
use Rattle.regress_tables.specs.Memory.{stored_in}
use Rattle.regress_tables.specs.Repetitions.{IsCoded}
use Rattle.regress_tables.specs.Runs.{AreRuns}
use Rattle.regress_tables.specs.Table.{IsTableOf, evaluated}
use Rattle.regress_tables.proofs.fill.fill.Given as goal

abbrev pub invariant-loop-row : goal.invariant-loop-row
invariant-loop-row l = record {
  of : IsTableOf l.input.text.now (routine_in l.input.code.now.program.leaves.items l.routine) l.table;
  backwards : l.table.backwards ≡ l.routine.backwards;
  rows : length (evaluated l.table) ≡ l.row * (2 * l.table.width);
  coded : IsCoded l.table l.memo.repetitions;
  runs : AreRuns (subject l.input.rules l.input.text.now) l.input.code.now.program.leaves.items l.memo.runs;
  stored : 0 < l.row → IfSome l.room (λ most. stored_in l.table ≤ most);
  known : IsKnown l.input (routine_in l.input.code.now.program.leaves.items l.routine) l.table l.memo;
}
