-- The code has a digit for each of the last instructions.
use Rattle.std.proofs.Common.{ℕ, ◌≤◌, drop, length}
use Rattle.regress_leaves.specs.Subject.{subject}
use Rattle.regress_program.specs.Program.{Out, matcher_of}
use Rattle.regress_program.specs.Views.{routine_in}
use Rattle.regress_code.specs.Code.{code_routines}
use Rattle.regress_tables.specs.Memo.{SameRows}
use Rattle.regress_tables.specs.Probes.{Coded}
use Rattle.regress_tables.specs.Repetitions.{IsCoded}
use Rattle.regress_tables.specs.Runs.{AreRuns}
use Rattle.regress_tables.specs.Table.{AreRight, IsRight}
use Rattle.regress_tables.proofs.keys.probes_at.Given as goal

abbrev pub invariant-loop-k : goal.invariant-loop-k
invariant-loop-k l = record {
  runs : AreRuns (subject l.input.rules l.input.text.now) l.input.code.now.program.leaves.items l.memo.runs;
  same : SameRows l.fn.memo l.memo;
  rows : IsCoded l.table l.memo.repetitions;
  within : l.k ≤ length l.fn.memo.far.items;
  coded : (outs : ℕ → Out) → AreRight outs l.input.tables.now → IsRight (outs (length l.input.tables.now)) l.table →
      (let u = subject l.input.rules l.input.text.now in
      Coded u.setting u.bytes u.direction (matcher_of u.setting u.bytes (code_routines l.input.code.now) outs) (outs (length l.input.tables.now))
      (routine_in l.input.code.now.program.leaves.items l.routine).ops (drop l.k l.fn.memo.far.items) l.position l.code);
}
